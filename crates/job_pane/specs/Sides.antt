-- A law of the sides of a pane: their own limits are all that is asked of them, whatever their proportion.
use Rattle.std.specs.Prelude.{ℕ, T}
use Rattle.job_part.specs.Part.{between}
use Rattle.job_pane.specs.PaneLine.{allowed_pane}
use Rattle.job_pane.specs.declared.Pane.{Pane}

-- A pane with other sides, and else the same.
abbrev pub with_sides : (w h : ℕ) → Pane → Pane
with_sides w h p = record {
  id = p.id;
  edges = p.edges;
  angle = p.angle;
  awning = p.awning;
  top = p.top;
  w = w;
  h = h;
  wind = p.wind;
}

-- Where a pane has allowed values, it has them with any two sides from 1 to 5000 mm.
abbrev pub AnySides : Pane → Type 0
AnySides p = (w h : ℕ) → T (allowed_pane p) → T (between 1 5000 w) → T (between 1 5000 h) → T (allowed_pane (with_sides w h p))
