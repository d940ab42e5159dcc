-- Document 01, "The program `canopy`": what it prints of the second file of (c), of (h), (i) and (j). No other text keeps the promise of
-- `report`.
use Rattle.std.specs.Prelude.{◌≡◌, List, ◌++◌, ℕ, length}
use Rattle.job_line.specs.Bytes.{bytes_of}
use Rattle.job_file.specs.File.{outcome_of}
use Rattle.bench_examples.specs.Files.{pane3001, job_h, job_j}
use Rattle.report.specs.Reported.{TextOf}

pub record Texts : Type 0 where
  -- the last size of (c)
  pub c : (text : List ℕ) → TextOf (outcome_of pane3001) text → text ≡ bytes_of "1 10\n" ++ bytes_of "1 1\n"
  pub h : (text : List ℕ) → TextOf (outcome_of job_h) text → text ≡ bytes_of "0 0\n"
  pub i : (file text : List ℕ) → length file ≡ 13 → TextOf (outcome_of file) text → text ≡ bytes_of "refused 1 0\n"
  pub j : (text : List ℕ) → TextOf (outcome_of job_j) text → text ≡ bytes_of "1 7\n" ++ bytes_of "2 9\n" ++ bytes_of "2 2\n"
