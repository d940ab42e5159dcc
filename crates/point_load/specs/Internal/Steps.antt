-- What the code works out of a pane once, and what it tests for each glass; the two together are clause 3.
use Rattle.std.specs.Prelude.{Bool, ltb}
use Rattle.job_glass.specs.declared.Glass.{Glass}
use Rattle.job_pane.specs.declared.Pane.{Pane}
use Rattle.point_load.specs.LiveLoad.{live_load}
use Rattle.span_table.specs.Spans.{max_span}
use Rattle.point_load.specs.Support.{column_of, span_of}
use Rattle.point_load.specs.declared.PointLoad.{PointLoad}

abbrev pub point_load_of : Pane → PointLoad
point_load_of p = record {
  load = live_load p.angle p.awning;
  column = column_of p;
  span = span_of p;
}

abbrev pub too_wide : PointLoad → Glass → Bool
too_wide point g = ltb (max_span g.kind point.load g.thick point.column) point.span
