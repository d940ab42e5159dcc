-- A bit of a word, counted from the lowest, which is bit 0.
use Rattle.std.specs.Prelude.{ℕ, ◌/◌, ◌%◌, ◌^◌, Bool, eqb}

-- Whether a bit of a word is set.
unfoldable pub has : ℕ → ℕ → Bool
has word k = eqb (word / 2 ^ k % 2) 1
