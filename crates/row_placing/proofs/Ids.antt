-- What the promise counts in a list of ids, as counts over the numbers of its entries, counted from 0.
--     times_count      how often an id stands in a list
--     nonzero_count    how many entries are not 0
--     nonzero_le       at most as many as the list has entries
use Prim.Native.Nat.{ℕ, ◌≤◌}
use mathlib.Core.Path.{◌≡◌, refl}
use mathlib.Core.Bool.{Bool, true, false, not}
use mathlib.Core.List.{List, [], ◌∷◌}
use native.Mathlib.Omega.{arith}
use lib.Dec.{eqb}
use lib.ListN.{length, get_or}
use Rattle.std.specs.Prelude.{if◌then◌else◌}
use Rattle.ranges.specs.Ranges.{sum_to}
use Rattle.ranges.specs.Internal.Counts.{one, count_to}
use Rattle.ranges.proofs.Sums.{sum_front}
use Rattle.ranges.proofs.Counts.{count_le}
use Rattle.row_placing.specs.Placing.{times, nonzero}

times_each : (id : ℕ) (ids : List ℕ) → times id ids ≡ count_to (λ p. eqb (get_or ids p 0) id) (length ids)
unfolding times sum_to
times_each id [] = refl
times_each id (x ∷ xs) =
    omega (arith, times_each id xs, sum_front (λ p. one (eqb (get_or (x ∷ xs) p 0) id)) (length xs))

one_unless : (b : Bool) → (if b then 0 else 1) ≡ one (not b)
one_unless true = refl
one_unless false = refl

nonzero_each : (ids : List ℕ) → nonzero ids ≡ count_to (λ p. not (eqb (get_or ids p 0) 0)) (length ids)
unfolding nonzero sum_to
nonzero_each [] = refl
nonzero_each (x ∷ xs) =
    omega (
      arith,
      one_unless (eqb x 0),
      nonzero_each xs,
      sum_front (λ p. one (not (eqb (get_or (x ∷ xs) p 0) 0))) (length xs),
    )

module _ (ids : List ℕ) (n : ℕ) (long : length ids ≡ n) where
  pub times_count : (id : ℕ) → times id ids ≡ count_to (λ p. eqb (get_or ids p 0) id) n
  times_count id = rw (← long) (times_each id ids)

  pub nonzero_count : nonzero ids ≡ count_to (λ p. not (eqb (get_or ids p 0) 0)) n
  nonzero_count = rw (← long) (nonzero_each ids)

  pub nonzero_le : nonzero ids ≤ n
  nonzero_le = rw nonzero_count (count_le (λ p. not (eqb (get_or ids p 0) 0)) n)
