-- Documents 01 and 02, "The four clauses", clause 3: what a ribbon is.
use Rattle.std.specs.Prelude.{◌*◌, min, max, Bool, ◌&&◌, not, ltb, eqb}
use Rattle.job_pane.specs.declared.Pane.{Pane}

-- A pane with four edges that is more than 3 times as long as wide.
abbrev pub is_ribbon : Pane → Bool
is_ribbon p = not (eqb p.edges 2) && ltb (3 * min p.w p.h) (max p.w p.h)
