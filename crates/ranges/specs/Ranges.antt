-- Sums and tests over the numbers below a bound. The library's own are of lists, and a list of numbers to sum over is no plainer.
use Rattle.std.specs.Prelude.{ℕ, zero, suc, ◌+◌, Bool, false, ◌||◌}

-- f 0 + f 1 + .. below n.
unfoldable pub sum_to : (ℕ → ℕ) → ℕ → ℕ
sum_to f zero = 0
sum_to f (suc n) = sum_to f n + f n

-- Whether some number below n passes a test.
unfoldable pub any_to : (ℕ → Bool) → ℕ → Bool
any_to test zero = false
any_to test (suc n) = any_to test n || test n
