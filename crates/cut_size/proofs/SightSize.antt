-- What passes by cut size passes by sight size: in the order of their length, the sides as drawn are no longer than those that are
-- cut.
use Prim.Native.Nat.{min, max}
use mathlib.Core.Path.{sym, ◌∙◌}
use native.Mathlib.Omega.{arith}
use borrow.Author.Tests.{ltb-false}
use Rattle.std.proofs.lemmas.Bool.{or_parts}
use Rattle.job_glass.specs.declared.Glass.{Glass}
use Rattle.job_pane.specs.declared.Pane.{Pane}
use Rattle.cut_size.specs.EdgeCover.{edge_cover}
use Rattle.cut_size.specs.Size.{cut_side}
use Rattle.cut_size.specs.SightSize.{PassesBySight}
use Rattle.cut_size.proofs.Ways.{no_side_longer, too_small_is, by_sides}

pub passes_by_sight : (p : Pane) (g : Glass) → PassesBySight p g
passes_by_sight p g e =
    let cover = edge_cover g.thick in
    let t = or_parts _ _ (by_sides p g ∙ e) in
    let shorter = ltb-false (min g.w g.h) (cut_side (min p.w p.h) cover) t.0 in
    let longer = ltb-false (max g.w g.h) (cut_side (max p.w p.h) cover) t.1 in
    sym (too_small_is p.w p.h g.w g.h)
    ∙ no_side_longer p.w p.h g.w g.h (omega (arith, shorter)) (omega (arith, longer))
