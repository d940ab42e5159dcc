-- The row of dead loads that document 02 states: the maximum at 0 degrees of 12 mm glass, by kind, in units of 0.01 kPa.
use Rattle.std.specs.Prelude.{ℕ, ◌≡◌}
use Rattle.dead_loads.specs.DeadLoads.{maximum_at}
use Rattle.uniform_load.specs.GlassLoads.{max_dead_load}
use Rattle.bench_examples.specs.Examples.{some_glass}

-- The maximum of a kind in that thickness, laid flat.
abbrev pub flat_12 : (kind : ℕ) → ℕ
flat_12 kind = max_dead_load (maximum_at 0) (some_glass kind 12 1200 1200)

pub record TemperedRow : Type 0 where
  pub annealed : flat_12 1 ≡ 114
  pub heat_strengthened : flat_12 2 ≡ 71
  pub toughened : flat_12 3 ≡ 71
  pub monolithic : flat_12 4 ≡ 71
