-- Counts and tests over the numbers below a bound.
use Rattle.std.specs.Prelude.{ℕ, zero, suc, Bool, true, ◌&&◌, if◌then◌else◌}
use Rattle.ranges.specs.Ranges.{sum_to}

-- What a test adds to a count.
abbrev pub one : Bool → ℕ
one passed = if passed then 1 else 0

-- How many of the numbers below n pass a test.
abbrev pub count_to : (ℕ → Bool) → ℕ → ℕ
count_to test n = sum_to (λ i. one (test i)) n

-- Whether every number below n passes a test.
unfoldable pub all_to : (ℕ → Bool) → ℕ → Bool
all_to test zero = true
all_to test (suc n) = all_to test n && test n
