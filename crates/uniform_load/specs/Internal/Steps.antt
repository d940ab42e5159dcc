-- What the code works out of a pane once, and what it tests for each glass; the two together are clause 4.
use Rattle.std.specs.Prelude.{ℕ, ◌*◌, Bool, ltb}
use Rattle.job_glass.specs.declared.Glass.{Glass}
use Rattle.job_pane.specs.declared.Pane.{Pane}
use Rattle.dead_loads.specs.Internal.Steps.{dead_load_at}
use Rattle.point_load.specs.Support.{span_of}
use Rattle.uniform_load.specs.GlassLoads.{max_dead_load, min_dead_load}
use Rattle.uniform_load.specs.Wind.{pressures_of}
use Rattle.uniform_load.specs.UniformLoad.{governing, span_constant}
use Rattle.uniform_load.specs.declared.UniformLoad.{UniformLoad}

abbrev pub uniform_load_of : Pane → UniformLoad
uniform_load_of p = record {
  edges = p.edges;
  square = span_of p * span_of p;
  dead = dead_load_at p.angle;
  pressures = pressures_of p.wind;
}

abbrev pub pressure_on : UniformLoad → Glass → ℕ
pressure_on load g = governing (max_dead_load load.dead.maximum g) (min_dead_load load.dead.minimum g) load.pressures

abbrev pub overloaded : UniformLoad → Glass → Bool
overloaded load g =
    ltb (span_constant load.edges g * span_constant load.edges g) (load.square * pressure_on load g)
