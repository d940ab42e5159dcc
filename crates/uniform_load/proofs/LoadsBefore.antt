-- Tempered glass has no higher maximum than annealed glass of the same thickness, so P is no higher than it was.
--     loads_before_laws    as specs/LoadsBefore.antt states it
use Prim.Native.Nat.{ℕ, ◌≤◌}
use native.Mathlib.Nat.{mul-le-mul, le_refl, le_trans}
use native.Mathlib.Omega.{arith}
use borrow.Author.Tests.{ltb-false, le-ltb}
use Rattle.job_glass.specs.declared.Glass.{Glass}
use Rattle.job_pane.specs.declared.Pane.{Pane}
use Rattle.dead_loads.specs.DeadLoads.{maximum_at}
use Rattle.uniform_load.specs.GlassLoads.{annealed_maximum, tempered_maximum, max_dead_load}
use Rattle.uniform_load.specs.UniformLoad.{design_pressure}
use Rattle.uniform_load.specs.LoadsBefore.{pressure_before, LoadsBeforeLaws}

tempered_no_higher : (row thick : ℕ) → tempered_maximum row thick ≤ annealed_maximum row thick
tempered_no_higher row thick = omega arith

pub maximum_no_higher : (row : ℕ) (g : Glass) → max_dead_load row g ≤ annealed_maximum row g.thick
maximum_no_higher row g = let lower = tempered_no_higher row g.thick in grind arith

pub loads_before_laws : (p : Pane) (g : Glass) → LoadsBeforeLaws p g
loads_before_laws p g =
    let lower = maximum_no_higher (maximum_at p.angle) g in
    let no_higher : design_pressure p g ≤ pressure_before p g = omega (arith, lower) in
    record {
      annealed_kept = λ annealed. rw annealed;
      maximum_no_higher = lower;
      pressure_no_higher = no_higher;
      pass_kept = λ e. le-ltb _ _ (le_trans (mul-le-mul (le_refl _) no_higher) (ltb-false _ _ e));
      uplift_kept = λ governs. omega (arith, lower, governs);
    }
