-- What calls leave that the bench examples don't show: a rack without glass, lists that are too short, the entries behind the answers and the
-- bytes behind the text. It holds of every call that keeps its promise, and would not hold if a promise said less.
use Rattle.std.specs.Prelude.{ℕ, ◌≤◌, ◌≡◌, List, [], ◌∷◌, ◌++◌, length, take, drop}
use Rattle.causes.specs.Answer.{gives, refuses}
use Rattle.job_line.specs.Bytes.{bytes_of}
use Rattle.job_file.specs.File.{outcome_of}
use Rattle.placing.specs.Promise.{Call, Promised}
use Rattle.report.specs.Reported.{TextOf, Reported}
use Rattle.bench_examples.specs.Examples.{counts}
use Rattle.bench_examples.specs.Files.{job_j}

-- Two panes, one by pressures and one by class, with ids that fall, and no glass at all.
abbrev pub job_empty_rack : List ℕ
job_empty_rack =
    bytes_of "P 2 4 30 0 3000 900 1500 60 95\n"
    ++ bytes_of "Q 1 4 30 0 3000 500 5000 10 2\n"
    ++ bytes_of "T 00000 00000\n"

-- A call of `place` that is refused, by its number: both lists are as they were.
pub record LeftAlone (number : ℕ) (c : Call) : Type 0 where
  pub refused : c.result ≡ refuses number 0
  pub answers_kept : c.answer_list.after ≡ c.answer_list.before
  pub group_kept : c.group_list.after ≡ c.group_list.before

-- Of that job both panes are left over, and the group has both, from the lowest up. Later entries are as they were.
pub record EmptyRack (c : Call) : Type 0 where
  pub counted : c.result ≡ gives (counts 2 0 2)
  pub answers : take 2 c.answer_list.after ≡ 0 ∷ 0 ∷ []
  pub later_answers : drop 2 c.answer_list.after ≡ drop 2 c.answer_list.before
  pub group : take 2 c.group_list.after ≡ 1 ∷ 2 ∷ []
  pub later_ids : drop 2 c.group_list.after ≡ drop 2 c.group_list.before

-- Of (j), whose two panes are placed: the entries behind the answers, and the group list, are as they were.
pub record KeptOfJ (c : Call) : Type 0 where
  pub later_answers : drop 2 c.answer_list.after ≡ drop 2 c.answer_list.before
  pub group_kept : c.group_list.after ≡ c.group_list.before

-- The text of (j) has 12 bytes, and the buffer is as it was behind them.
pub record ReportedJ (before after : List ℕ) (count : ℕ) : Type 0 where
  pub counted : count ≡ 12
  pub front : take 12 after ≡ bytes_of "1 7\n" ++ bytes_of "2 9\n" ++ bytes_of "2 2\n"
  pub later_kept : drop 12 after ≡ drop 12 before

pub record Calls : Type 0 where
  -- 13 bytes
  pub i : (file : List ℕ) → length file ≡ 13 → (c : Call) → Promised (outcome_of file) c → LeftAlone 1 c
  -- (j), with a list of one entry for its two panes
  pub short_answers : (c : Call) → length c.answer_list.before ≡ 1 → Promised (outcome_of job_j) c → LeftAlone 9 c
  pub short_group : (c : Call) → length c.group_list.before ≡ 1 → Promised (outcome_of job_j) c → LeftAlone 9 c
  -- and with lists that are long enough
  pub j : (c : Call) → 2 ≤ length c.answer_list.before → 2 ≤ length c.group_list.before → Promised (outcome_of job_j) c → KeptOfJ c
  pub j_reported : (before after : List ℕ) (count : ℕ) → Reported (outcome_of job_j) before after count → ReportedJ before after count
  pub empty_rack :
      (c : Call) → 2 ≤ length c.answer_list.before → 2 ≤ length c.group_list.before → Promised (outcome_of job_empty_rack) c → EmptyRack c
  pub empty_rack_text :
      (text : List ℕ) → TextOf (outcome_of job_empty_rack) text →
      text ≡ bytes_of "2 0\n" ++ bytes_of "1 0\n" ++ bytes_of "0 2\n" ++ bytes_of "short 1 2\n"
