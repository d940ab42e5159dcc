-- The numbers of clause 4 are bounded in an accepted file: no maximum of Table 6.1 is above 57, and the numbers of the lines have their
-- allowed values.
--     load_bounds    as specs/LoadBounds.antt states it
use Prim.Native.Nat.{◌≤◌}
use native.Mathlib.Nat.{mul-le-mul, le_trans}
use native.Mathlib.Omega.{arith}
use Rattle.dead_loads.specs.DeadLoads.{maximum_at}
use Rattle.dead_loads.proofs.High.{maximum_high}
use Rattle.job_glass.specs.declared.Glass.{Glass}
use Rattle.job_glass.proofs.Values.{allowed_glass_lem}
use Rattle.job_pane.specs.declared.Pane.{Pane}
use Rattle.job_pane.proofs.Values.{allowed_pane_lem}
use Rattle.point_load.specs.Support.{span_of}
use Rattle.uniform_load.specs.GlassLoads.{max_dead_load}
use Rattle.uniform_load.specs.UniformLoad.{design_pressure, span_constant}
use Rattle.uniform_load.specs.LoadBounds.{LoadsAreBounded}
use Rattle.uniform_load.proofs.Bounds.{pressures_high}
use Rattle.uniform_load.proofs.LoadsBefore.{maximum_no_higher}

pub load_bounds : (p : Pane) (g : Glass) → LoadsAreBounded p g
load_bounds p g pane_allowed glass_allowed =
    let pane = allowed_pane_lem p pane_allowed in
    let glass = allowed_glass_lem g glass_allowed in
    let wind = pressures_high p.wind pane.wind_is in
    let thick : g.thick ≤ 12 = grind (arith, glass.thick_is) in
    let product = mul-le-mul (maximum_high p.angle) thick in
    let maximum : max_dead_load (maximum_at p.angle) g ≤ 114 =
    le_trans (maximum_no_higher (maximum_at p.angle) g) (omega (arith, product)) in
    let pressure : design_pressure p g ≤ 1114 = omega (arith, maximum, wind.0, wind.1) in
    let span : span_of p ≤ 5000 = grind arith in
    let constant : span_constant p.edges g ≤ 99999 = grind arith in
    record {
      maximum_high = maximum;
      pressure_high = pressure;
      load_high = mul-le-mul (mul-le-mul span span) pressure;
      constant_high = mul-le-mul constant constant;
    }
