-- The dead load at an angle, as the code gives it.
use Rattle.std.specs.Prelude.{ℕ}
use Rattle.dead_loads.specs.DeadLoads.{maximum_at, minimum_at}
use Rattle.dead_loads.specs.declared.DeadLoad.{DeadLoad}

abbrev pub dead_load_at : (angle : ℕ) → DeadLoad
dead_load_at angle = record { maximum = maximum_at angle; minimum = minimum_at angle }
