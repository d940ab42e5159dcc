-- What document 02, 2026-06, changed in clause 4 and what it left, for a pane and a glass of any values: before it, every kind had the
-- maximum dead load of kind 1.
use Rattle.std.specs.Prelude.{ℕ, ◌+◌, ◌-◌, ◌≤◌, ◌≡◌, false}
use Rattle.job_glass.specs.declared.Glass.{Glass}
use Rattle.job_pane.specs.declared.Pane.{Pane}
use Rattle.dead_loads.specs.DeadLoads.{maximum_at, minimum_at}
use Rattle.uniform_load.specs.GlassLoads.{annealed_maximum, max_dead_load, min_dead_load}
use Rattle.uniform_load.specs.UniformLoad.{governing, design_pressure, fails_under, uniform_load_fails}
use Rattle.uniform_load.specs.Wind.{pressures_of}

-- The maximum dead load of a glass at a pane's angle, and P, as they were.
abbrev pub maximum_before : Pane → Glass → ℕ
maximum_before p g = annealed_maximum (maximum_at p.angle) g.thick

abbrev pub pressure_before : Pane → Glass → ℕ
pressure_before p g = governing (maximum_before p g) (min_dead_load (minimum_at p.angle) g) (pressures_of p.wind)

pub record LoadsBeforeLaws (p : Pane) (g : Glass) : Type 0 where
  -- of kind 1 nothing changed
  pub annealed_kept : g.kind ≡ 1 → design_pressure p g ≡ pressure_before p g
  -- no maximum and no P is above what it was
  pub maximum_no_higher : max_dead_load (maximum_at p.angle) g ≤ maximum_before p g
  pub pressure_no_higher : design_pressure p g ≤ pressure_before p g
  -- so what passed clause 4 passes it
  pub pass_kept : fails_under (pressure_before p g) p g ≡ false → uniform_load_fails p g ≡ false
  -- and P is what it was where the wind from below governed
  pub uplift_kept :
      maximum_before p g + (pressures_of p.wind).down ≤ (pressures_of p.wind).up - min_dead_load (minimum_at p.angle) g →
      design_pressure p g ≡ pressure_before p g
