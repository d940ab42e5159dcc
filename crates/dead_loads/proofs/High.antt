-- No maximum of Table 6.1 is above 57.
use Prim.Native.Nat.{ℕ, ◌≤◌}
use native.Mathlib.Omega.{arith}
use Rattle.dead_loads.specs.DeadLoads.{maximum_at}

pub maximum_high : (angle : ℕ) → maximum_at angle ≤ 57
maximum_high angle = grind arith
