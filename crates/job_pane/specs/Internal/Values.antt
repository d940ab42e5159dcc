-- What the layers above may count on of a pane of an accepted file.
use native.Mathlib.Omega.{arith}
use Rattle.std.specs.Prelude.{◌≤◌, ◌≡◌, ◌⊎◌, T}
use Rattle.basics.proofs.Tests.{and_iff, leb_iff}
use Rattle.job_pane.specs.PaneLine.{allowed_pane}
use Rattle.job_pane.specs.declared.Pane.{Pane}
use Rattle.job_pane.specs.declared.Wind.{Wind}
use Rattle.job_pane.specs.declared.Wind.TheVariants.{ByPressure, ByClass}

-- The allowed values of a wind, as bounds.
abbrev pub WindValues : Wind → Type 0
WindValues (ByPressure down up) = (down ≤ 1000) × (up ≤ 1000)
WindValues (ByClass class zone) = (1 ≤ class) × (class ≤ 10) × (1 ≤ zone) × (zone ≤ 2)

-- The allowed values of a pane, as bounds.
pub record PaneValues (p : Pane) : Type 0 where
  pub id_low : 1 ≤ p.id
  pub id_high : p.id ≤ 9999
  pub edges_is : (p.edges ≡ 2) ⊎ (p.edges ≡ 4)
  pub angle_high : p.angle ≤ 74
  pub awning_high : p.awning ≤ 1
  pub top_high : p.top ≤ 99999
  pub w_low : 1 ≤ p.w
  pub w_high : p.w ≤ 5000
  pub h_low : 1 ≤ p.h
  pub h_high : p.h ≤ 5000
  pub wind_is : WindValues p.wind

-- An allowed id is at most 9999.
pub allowed_pane_id : (p : Pane) → T (allowed_pane p) → p.id ≤ 9999
allowed_pane_id p h = let k = simp (and_iff, leb_iff) at h in omega arith
