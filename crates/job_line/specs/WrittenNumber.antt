-- How numbers are written, in job files and in the text of `canopy`: document 01, "The job file" and "The program `canopy`".
use Rattle.std.specs.Prelude.{ℕ, zero, suc, ◌+◌, ◌/◌, ◌%◌, List, [], ◌∷◌, ◌++◌, ltb, if◌then◌else◌}
use Rattle.job_line.specs.Bytes.{space, digit0}

-- The last `count` decimal digits of a number, the most significant first.
unfoldable pub written_digits : ℕ → ℕ → List ℕ
written_digits zero n = []
written_digits (suc count) n = written_digits count (n / 10) ++ ((digit0 + n % 10) ∷ [])

-- How many digits a number up to 99999 has.
unfoldable pub digit_count : ℕ → ℕ
digit_count n =
    if ltb n 10 then 1
    else if ltb n 100 then 2
    else if ltb n 1000 then 3
    else if ltb n 10000 then 4
    else 5

-- A number with no zeros in front. Ids, counts and offsets are all at most 99999.
unfoldable pub written_number : ℕ → List ℕ
written_number n = written_digits (digit_count n) n

-- Numbers, a space before each.
unfoldable pub written_numbers : List ℕ → List ℕ
written_numbers [] = []
written_numbers (n ∷ ns) = space ∷ written_number n ++ written_numbers ns
