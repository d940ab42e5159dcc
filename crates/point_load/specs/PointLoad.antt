-- Document 01, "The four clauses", clause 3, point load (AS 1288, 6.5.4).
use Rattle.std.specs.Prelude.{ℕ, Bool, ltb}
use Rattle.job_glass.specs.declared.Glass.{Glass}
use Rattle.job_pane.specs.declared.Pane.{Pane}
use Rattle.point_load.specs.LiveLoad.{live_load}
use Rattle.span_table.specs.Spans.{max_span}
use Rattle.span_table.specs.declared.Column.{Column}
use Rattle.point_load.specs.Support.{column_of, span_of}

-- The entry for a pane and a glass, in a column.
abbrev pub span_entry : Column → Pane → Glass → ℕ
span_entry column p g = max_span g.kind (live_load p.angle p.awning) g.thick column

-- The clause fails where the span is larger than the entry in the pane's column; an equal one passes.
abbrev pub point_load_fails : Pane → Glass → Bool
point_load_fails p g = ltb (span_entry (column_of p) p g) (span_of p)
