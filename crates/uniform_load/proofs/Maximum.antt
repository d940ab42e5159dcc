-- A row times 50 times the thickness, divided by 300 and rounded up, is the maximum of annealed glass: so one division serves both maxima.
use Prim.Native.Nat.{ℕ, ◌+◌, ◌*◌, ◌/◌}
use mathlib.Core.Path.{◌≡◌}
use native.Mathlib.Omega.{arith}
use Rattle.uniform_load.specs.GlassLoads.{annealed_maximum}

pub of_annealed : (row thick : ℕ) → (row * 50 * thick + 299) / 300 ≡ annealed_maximum row thick
of_annealed row thick = omega arith
