-- A set of glasses: the bits of a word of 64. `has set g` says whether the glass at place g of the file, counted from 0, is in a set:
-- whether its bit is set.
use Rattle.std.specs.Prelude.{ℕ, ◌<◌, ◌≡◌, Bool, true, false, not, ◌||◌}
use Rattle.ranges.specs.Internal.Counts.{count_to, all_to}
unfoldable pub use Rattle.bits.specs.Internal.Bit.{has}

-- The glasses of a set are those that pass a test.
abbrev pub Members : ℕ → (ℕ → Bool) → Type 0
Members set test = (g : ℕ) → g < 64 → has set g ≡ test g

-- The first glass of a set, in file order.
pub record Lowest (set g : ℕ) : Type 0 where
  pub below : g < 64
  pub member : has set g ≡ true
  pub none_lower : (k : ℕ) → k < g → has set k ≡ false

-- Every glass of a set is in another; and whether it is so.
abbrev pub Within : ℕ → ℕ → Type 0
Within set other = (g : ℕ) → g < 64 → has set g ≡ true → has other g ≡ true

abbrev pub is_within : ℕ → ℕ → Bool
is_within set other = all_to (λ g. not (has set g) || has other g) 64

-- How many glasses are not in a set.
abbrev pub unvisited : ℕ → ℕ
unvisited set = count_to (λ g. not (has set g)) 64
