-- Both ways round at once: a cut lies within a sheet one way or the other exactly where its shorter side is at most the sheet's
-- shorter one, and its longer side at most the sheet's longer one.
--     no_side_longer    where no ordered side is longer than the sheet's, neither of the two tests finds one
--     too_small_is      the two tests are the definition's, of any sides
--     by_sides          and of a pane and a glass
use Prim.Native.Nat.{ℕ, ◌≤◌, min, max}
use mathlib.Core.Path.{◌≡◌, refl, sym, ◌∙◌}
use mathlib.Core.Bool.{Bool, true, false, not, ◌&&◌, ◌||◌}
use native.Mathlib.Omega.{arith}
use lib.Dec.{leb, ltb}
use borrow.Author.Tests.{ltb-false}
use Rattle.std.proofs.lemmas.Bool.{or_parts}
use Rattle.job_glass.specs.declared.Glass.{Glass}
use Rattle.job_pane.specs.declared.Pane.{Pane}
use Rattle.cut_size.specs.EdgeCover.{edge_cover}
use Rattle.cut_size.specs.Size.{cut_side, size_fails}

module _ (w h sheet_w sheet_h : ℕ) where
  abbrev upright : Bool
  upright = leb w sheet_w && leb h sheet_h

  abbrev turned : Bool
  turned = leb w sheet_h && leb h sheet_w

  abbrev too_narrow : Bool
  too_narrow = ltb (min sheet_w sheet_h) (min w h)

  abbrev too_low : Bool
  too_low = ltb (max sheet_w sheet_h) (max w h)

  -- No ordered side is longer than the sheet's: then neither test finds one.
  pub no_side_longer : min w h ≤ min sheet_w sheet_h → max w h ≤ max sheet_w sheet_h → (too_narrow || too_low) ≡ false
  no_side_longer x y = grind arith

  one_way : (upright || turned) ≡ true → (too_narrow || too_low) ≡ false
  one_way e = grind arith

  some_way : min w h ≤ min sheet_w sheet_h → max w h ≤ max sheet_w sheet_h → (upright || turned) ≡ true
  some_way x y = grind arith

  pub too_small_is : (too_narrow || too_low) ≡ not (upright || turned)
  too_small_is = go (upright || turned) (too_narrow || too_low) refl refl
    where
      go : (fits long : Bool) → (upright || turned) ≡ fits → (too_narrow || too_low) ≡ long → long ≡ not fits
      go true long e is = sym is ∙ one_way e
      go false true e is = refl
      go false false e is =
          let none = or_parts too_narrow too_low is in
          sym e ∙ some_way (ltb-false _ _ none.0) (ltb-false _ _ none.1)

pub by_sides :
    (p : Pane) (g : Glass) →
    let cover : ℕ = edge_cover g.thick in
    (ltb (min g.w g.h) (cut_side (min p.w p.h) cover) || ltb (max g.w g.h) (cut_side (max p.w p.h) cover))
    ≡ size_fails p g
by_sides p g =
    let cover = edge_cover g.thick in
    let shorter : cut_side (min p.w p.h) cover ≡ min (cut_side p.w cover) (cut_side p.h cover) = omega arith in
    let longer : cut_side (max p.w p.h) cover ≡ max (cut_side p.w cover) (cut_side p.h cover) = omega arith in
    rw (shorter, longer) (too_small_is (cut_side p.w cover) (cut_side p.h cover) g.w g.h)
