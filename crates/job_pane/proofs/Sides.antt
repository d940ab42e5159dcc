-- Any sides within their limits are allowed: no test reads both sides, or a side and another number.
--     any_sides    as specs/Sides.antt states it
use Rattle.basics.proofs.Tests.{and_iff, leb_iff}
use Rattle.job_pane.specs.Sides.{AnySides}
use Rattle.job_pane.specs.declared.Pane.{Pane}

pub any_sides : (p : Pane) → AnySides p
any_sides p w h t a b =
    let k = simp (and_iff, leb_iff) at t in
    let u = simp (and_iff, leb_iff) at a in
    let v = simp (and_iff, leb_iff) at b in
    simp (and_iff, leb_iff) (((k.0.0.0, u), v), k.1)
