-- The two rows of wind pressures that document 02 states, in units of 0.01 kPa.
use Rattle.std.specs.Prelude.{◌≡◌}
use Rattle.job_pane.specs.declared.Wind.TheVariants.{ByClass}
use Rattle.uniform_load.specs.Wind.{pressures_of}

pub record WindRows : Type 0 where
  -- N1, zone 1
  pub n1_general : pressures_of (ByClass 1 1) ≡ record { down = 44; up = 69 }
  -- C4, zone 2
  pub c4_near_edges : pressures_of (ByClass 10 2) ≡ record { down = 422; up = 998 }
