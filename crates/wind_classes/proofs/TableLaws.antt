-- The laws of Table A2 hold: two tests, computed over the classes and over the pairs of classes.
--     table_laws    as specs/TableLaws.antt states them
use Prim.Native.Nat.{ℕ, ◌≤◌, ◌<◌}
use mathlib.Core.Path.{◌≡◌, refl}
use mathlib.Core.Bool.{Bool, true, not, ◌&&◌, ◌||◌}
use native.Mathlib.Omega.{arith}
use borrow.Author.Tests.{leb-true}
use lib.Dec.{T, leb, eqb}
use Rattle.std.specs.Prelude.{if◌then◌else◌}
use Rattle.std.proofs.lemmas.Bool.{and_parts}
use Rattle.basics.proofs.Tests.{if_high}
use Rattle.ranges.specs.Internal.Counts.{all_to}
use Rattle.ranges.proofs.All.{all_at}
use Rattle.wind_classes.specs.ClassPressures.{row_of}
use Rattle.wind_classes.specs.TableLaws.{is_class, rises_to, TableLaws}

-- The row of each class: its three figures, and that the third is no smaller than the second.
abbrev is_sound : ℕ → Bool
is_sound class =
    let r = row_of class in
    not (is_class class)
    || (leb r.any_position 1000 && (leb r.general 1000 && (leb r.near_edges 1000 && leb r.general r.near_edges)))

abbrev is_not_above : ℕ → ℕ → Bool
is_not_above class other =
    let r = row_of class in
    let s = row_of other in
    not (rises_to class other)
    || (leb r.any_position s.any_position && (leb r.general s.general && leb r.near_edges s.near_edges))

all_sound : all_to is_sound 11 ≡ true
unfolding all_to
all_sound = refl

all_not_above : all_to (λ class. all_to (is_not_above class) 11) 11 ≡ true
unfolding all_to
all_not_above = refl

applies : (a b : Bool) → (not a || b) ≡ true → T a → b ≡ true
applies a b e t = grind arith

class_below : (class : ℕ) → T (is_class class) → class < 11
class_below class t = grind arith

rising_below : (class other : ℕ) → T (rises_to class other) → (class < 11) × (other < 11)
rising_below class other t = grind arith

-- What the tests say of rows to which they apply.
sound :
    (class : ℕ) → T (is_class class) →
    let r = row_of class in
    (r.any_position ≤ 1000) × (r.general ≤ 1000) × (r.near_edges ≤ 1000) × (r.general ≤ r.near_edges)
sound class is = let a = all_at is_sound 11 all_sound class (class_below class is) in grind arith

not_above :
    (class other : ℕ) → T (rises_to class other) →
    let r = row_of class in
    let s = row_of other in
    (r.any_position ≤ s.any_position) × (r.general ≤ s.general) × (r.near_edges ≤ s.near_edges)
not_above class other rises =
    let below = rising_below class other rises in
    let row = all_at (λ class. all_to (is_not_above class) 11) 11 all_not_above class below.0 in
    let a = and_parts _ _ (applies (rises_to class other) _ (all_at (is_not_above class) 11 row other below.1) rises) in
    let b = and_parts _ _ a.1 in
    (leb-true _ _ a.0, leb-true _ _ b.0, leb-true _ _ b.1)

-- The same choice of two figures.
if_not_above : {x y x' y' : ℕ} (b : Bool) → x ≤ x' → y ≤ y' → (if b then x else y) ≤ (if b then x' else y')
if_not_above b h k = grind arith

pub table_laws : TableLaws
table_laws = record {
  at_most = λ class zone is. let s = sound class is in record { down = s.0; up = if_high (eqb zone 2) s.2 s.1 };
  edges_not_below = λ class is. record { down = omega arith; up = (sound class is).3 };
  never_falls = λ class other zone rises.
      let s = not_above class other rises in
      record { down = s.0; up = if_not_above (eqb zone 2) s.2 s.1 };
}
