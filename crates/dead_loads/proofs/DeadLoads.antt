-- The rows of Table 6.1 stand 5 degrees apart. One test, computed over the angles 0 to 75, compares the row at or next below
-- an angle, and the row at or next above it, with the row that the code reads. Above 75 degrees every row is below.
--     in_place    an angle's loads, by the places of their rows in the table
use Prim.Native.Nat.{ℕ, ◌+◌, ◌/◌, ◌%◌, ◌≤◌, ◌<◌, min}
use mathlib.Core.Path.{◌≡◌, refl, sym, ap, ap₂, ◌∙◌}
use mathlib.Core.Bool.{Bool, true, false, ◌&&◌}
use mathlib.Core.List.{List, [], ◌∷◌, map}
use native.Mathlib.Omega.{arith}
use borrow.Author.Tests.{eqb-true, le-leb, lt-leb, leb-true, leb-false}
use lib.Dec.{leb, eqb}
use lib.ListN.{get_or}
use Rattle.std.proofs.lemmas.List.{get_or_past}
use Rattle.std.proofs.lemmas.Bool.{and_parts}
use Rattle.ranges.specs.Internal.Counts.{all_to}
use Rattle.ranges.proofs.All.{all_at}
use Rattle.dead_loads.specs.DeadLoads.{LoadRow, dead_loads, no_row, at_or_below, at_or_above, maximum_at, minimum_at}
use Rattle.dead_loads.specs.Internal.Steps.{dead_load_at}
use Rattle.dead_loads.specs.declared.DeadLoad.{DeadLoad}

abbrev load : (maximum minimum : ℕ) → DeadLoad
load maximum minimum = record { maximum = maximum; minimum = minimum }

-- The table as the code holds it.
abbrev table : List (List ℕ)
table = map (λ r. r.maximum ∷ r.minimum ∷ []) dead_loads

abbrev figure : (place column : ℕ) → ℕ
figure place column = get_or (get_or table place []) column 0

abbrev below : ℕ → ℕ
below angle = min (angle / 5) 15

abbrev above : ℕ → ℕ
above angle = angle / 5 + min 1 (angle % 5)

record InPlace (angle : ℕ) : Type 0 where
  max_is : maximum_at angle ≡ figure (below angle) 0
  min_is : minimum_at angle ≡ figure (above angle) 1

abbrev is_in_place : ℕ → Bool
is_in_place angle = eqb (maximum_at angle) (figure (below angle) 0) && eqb (minimum_at angle) (figure (above angle) 1)

all_in_place : all_to is_in_place 76 ≡ true
unfolding all_to
all_in_place = refl

within : (angle : ℕ) → angle ≤ 75 → InPlace angle
within angle h =
    let passed = and_parts _ _ (all_at is_in_place 76 all_in_place angle (omega arith)) in
    record { max_is = eqb-true _ _ passed.0; min_is = eqb-true _ _ passed.1 }

-- Of rows none of which is above 75 degrees, the last is the one next below a larger angle, and none is above it.
abbrev last_row : LoadRow → List LoadRow → LoadRow
last_row before [] = before
last_row before (r ∷ rows) = last_row r rows

abbrev are_low : List LoadRow → Bool
are_low [] = true
are_low (r ∷ rows) = leb r.angle 75 && are_low rows

module _ (angle : ℕ) (h : 75 < angle) where
  last_below : (before : LoadRow) (rows : List LoadRow) → are_low rows ≡ true → at_or_below angle before rows ≡ last_row before rows
  last_below before [] e = refl
  last_below before (r ∷ rows) e =
      let low = and_parts (leb r.angle 75) (are_low rows) e in
      let first = leb-true r.angle 75 low.0 in
      rw (le-leb r.angle angle (omega (arith, first))) (last_below r rows low.1)

  none_above : (rows : List LoadRow) → are_low rows ≡ true → at_or_above angle rows ≡ no_row
  none_above [] e = refl
  none_above (r ∷ rows) e =
      let low = and_parts (leb r.angle 75) (are_low rows) e in
      let first = leb-true r.angle 75 low.0 in
      rw (lt-leb angle r.angle (omega (arith, first))) (none_above rows low.1)

  beyond : InPlace angle
  beyond =
      let at_last : below angle ≡ 15 = omega arith in
      let at_end : get_or table (above angle) [] ≡ [] = get_or_past table (above angle) [] (omega arith) in
      record {
        max_is = ap (λ (r : LoadRow). r.maximum) (last_below no_row dead_loads refl) ∙ sym (ap (λ (place : ℕ). figure place 0) at_last);
        min_is =
            ap (λ (r : LoadRow). r.minimum) (none_above dead_loads refl) ∙ sym (ap (λ (row : List ℕ). get_or row 1 0) at_end);
      }

pub in_place : (angle : ℕ) → load (figure (below angle) 0) (figure (above angle) 1) ≡ dead_load_at angle
in_place angle = go (leb angle 75) refl
  where
    of : InPlace angle → load (figure (below angle) 0) (figure (above angle) 1) ≡ dead_load_at angle
    of p = sym (ap₂ load p.max_is p.min_is)

    go : (b : Bool) → leb angle 75 ≡ b → load (figure (below angle) 0) (figure (above angle) 1) ≡ dead_load_at angle
    go true e = of (within angle (leb-true angle 75 e))
    go false e = of (beyond angle (leb-false angle 75 e))
