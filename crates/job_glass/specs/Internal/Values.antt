-- What the layers above may count on of a glass of an accepted file.
use native.Mathlib.Omega.{arith}
use Rattle.std.specs.Prelude.{◌≤◌, ◌≡◌, ◌⊎◌, T}
use Rattle.basics.proofs.Tests.{and_iff, leb_iff}
use Rattle.job_glass.specs.GlassLine.{allowed_glass}
use Rattle.job_glass.specs.declared.Glass.{Glass}

-- The allowed values of a glass, as bounds.
pub record GlassValues (g : Glass) : Type 0 where
  pub id_low : 1 ≤ g.id
  pub id_high : g.id ≤ 9999
  pub kind_low : 1 ≤ g.kind
  pub kind_high : g.kind ≤ 4
  pub thick_is : (g.thick ≡ 6) ⊎ ((g.thick ≡ 8) ⊎ ((g.thick ≡ 10) ⊎ (g.thick ≡ 12)))
  pub w_low : 1 ≤ g.w
  pub w_high : g.w ≤ 9999
  pub h_low : 1 ≤ g.h
  pub h_high : g.h ≤ 9999
  pub two_low : 1 ≤ g.two
  pub two_high : g.two ≤ 99999
  pub four_low : 1 ≤ g.four
  pub four_high : g.four ≤ 99999
  pub stock_high : g.stock ≤ 999

-- An allowed id is at most 9999.
pub allowed_glass_id : (g : Glass) → T (allowed_glass g) → g.id ≤ 9999
allowed_glass_id g h = let k = simp (and_iff, leb_iff) at h in omega arith
