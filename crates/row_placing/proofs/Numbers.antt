-- The glasses and panes of a schedule by their places, here called numbers: since no id stands twice, an id says which one it is.
--     same_number    one id, one number
--     glass_test     a test of ids is one of numbers
--     same_pane      one id, one pane
use Prim.Native.Nat.{ℕ, ◌<◌}
use mathlib.Core.Path.{◌≡◌, refl, ap, sym}
use mathlib.Core.Bool.{Bool, true, false}
use mathlib.Core.List.{List}
use native.Mathlib.Omega.{arith}
use lib.Dec.{ltb, eqb}
use lib.ListN.{length, get_or, get_or-eq_default}
use borrow.Author.Tests.{ltb-true, ltb-false, eqb-true, eqb-false, eq-eqb, ne_eqb}
use Rattle.row_placing.specs.Schedule.{Schedule}
use Rattle.row_placing.specs.Internal.Stated.{Known}

-- Numbers below a bound whose ids differ where they do are told by their ids.
module _ (ids : List ℕ) (apart : (i j : ℕ) → i < j → j < length ids → get_or ids i 0 ≡ get_or ids j 0 → ⊥) where
  pub same_number : (i j : ℕ) → i < length ids → j < length ids → get_or ids i 0 ≡ get_or ids j 0 → i ≡ j
  same_number i j l k e = go (ltb i j) (ltb j i) refl refl
    where
      go : (a b : Bool) → ltb i j ≡ a → ltb j i ≡ b → i ≡ j
      go true b below above = absurd (apart i j (ltb-true i j below) k e)
      go false true below above = absurd (apart j i (ltb-true j i above) l (sym e))
      go false false below above = omega (arith, ltb-false i j below, ltb-false j i above)

module _ {s : Schedule} (known : Known s) where
  same_glass : (g j : ℕ) → j < length s.glass_ids → get_or s.glass_ids g 0 ≡ get_or s.glass_ids j 0 → g ≡ j
  same_glass g j l e = go (ltb g (length s.glass_ids)) refl
    where
      go : (b : Bool) → ltb g (length s.glass_ids) ≡ b → g ≡ j
      go true below = same_number s.glass_ids known.glasses_differ g j (ltb-true g (length s.glass_ids) below) l e
      go false past =
          let none = get_or-eq_default s.glass_ids 0 (ltb-false g (length s.glass_ids) past) in
          absurd (omega (arith, none, known.id_low j l))

  pub glass_test : (g j : ℕ) → j < length s.glass_ids → eqb (get_or s.glass_ids g 0) (get_or s.glass_ids j 0) ≡ eqb g j
  glass_test g j l = go (eqb g j) refl
    where
      go : (b : Bool) → eqb g j ≡ b → eqb (get_or s.glass_ids g 0) (get_or s.glass_ids j 0) ≡ b
      go true same = eq-eqb _ _ (ap (λ (i : ℕ). get_or s.glass_ids i 0) (eqb-true g j same))
      go false other = ne_eqb _ _ (λ e. eqb-false g j other (same_glass g j l e))

  pub same_pane :
      (p q : ℕ) → p < length s.pane_ids → q < length s.pane_ids → get_or s.pane_ids p 0 ≡ get_or s.pane_ids q 0 → p ≡ q
  same_pane = same_number s.pane_ids known.panes_differ
