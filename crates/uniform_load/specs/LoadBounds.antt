-- How large the numbers of clause 4 are: each of an accepted file fits 64 bits.
use Rattle.std.specs.Prelude.{◌*◌, ◌≤◌, T}
use Rattle.job_glass.specs.GlassLine.{allowed_glass}
use Rattle.job_glass.specs.declared.Glass.{Glass}
use Rattle.job_pane.specs.PaneLine.{allowed_pane}
use Rattle.job_pane.specs.declared.Pane.{Pane}
use Rattle.dead_loads.specs.DeadLoads.{maximum_at}
use Rattle.point_load.specs.Support.{span_of}
use Rattle.uniform_load.specs.GlassLoads.{max_dead_load}
use Rattle.uniform_load.specs.UniformLoad.{design_pressure, span_constant}

pub record LoadBounds (p : Pane) (g : Glass) : Type 0 where
  -- the largest is that of 12 mm annealed glass at 0 degrees
  pub maximum_high : max_dead_load (maximum_at p.angle) g ≤ 114
  -- the largest is that, and the strongest wind down that a line states
  pub pressure_high : design_pressure p g ≤ 1114
  -- the two numbers that are compared, the first of a span of 5000 mm: both are below 2 to the power of 35
  pub load_high : span_of p * span_of p * design_pressure p g ≤ 27850000000
  pub constant_high : span_constant p.edges g * span_constant p.edges g ≤ 9999800001

-- Where the numbers of both lines are among their allowed values.
abbrev pub LoadsAreBounded : Pane → Glass → Type 0
LoadsAreBounded p g = T (allowed_pane p) → T (allowed_glass g) → LoadBounds p g
