-- Lists of ids.
use Rattle.std.specs.Prelude.{ℕ, Bool, false, not, ◌||◌, List, [], ◌∷◌, T, eqb}

-- Whether an id stands in a list.
unfoldable pub among : ℕ → List ℕ → Bool
among n [] = false
among n (m ∷ ms) = eqb m n || among n ms

-- No id stands in a list twice.
unfoldable pub Distinct : List ℕ → Type 0
Distinct [] = Unit
Distinct (n ∷ ns) = T (not (among n ns)) × Distinct ns
