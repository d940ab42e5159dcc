-- Panes that differ in their wind alone, for the laws that compare them.
use Rattle.job_pane.specs.declared.Pane.{Pane}
use Rattle.job_pane.specs.declared.Wind.{Wind}

-- A pane with another wind, and else the same.
abbrev pub with_wind : Wind → Pane → Pane
with_wind wind p = record {
  id = p.id;
  edges = p.edges;
  angle = p.angle;
  awning = p.awning;
  top = p.top;
  w = p.w;
  h = p.h;
  wind = wind;
}
