-- Document 01, "The four clauses", clause 1, kind (AS 1288, 6.4).
use Rattle.std.specs.Prelude.{Bool, ◌&&◌, leb, eqb}
use Rattle.job_glass.specs.declared.Glass.{Glass}
use Rattle.job_pane.specs.declared.Pane.{Pane}

-- Monolithic glass fails from a height of 3000 mm on.
abbrev pub kind_fails : Pane → Glass → Bool
kind_fails p g = leb 3000 p.top && eqb g.kind 4
