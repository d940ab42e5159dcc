-- A pane whose line states a wind class, as one whose line states the pressures themselves.
use Rattle.std.specs.Prelude.{ℕ, ◌≡◌, T}
use Rattle.job_pane.specs.PaneLine.{allowed_pane}
use Rattle.job_pane.specs.OtherWind.{with_wind}
use Rattle.job_pane.specs.declared.Pane.{Pane}
use Rattle.job_pane.specs.declared.Wind.TheVariants.{ByPressure}
use Rattle.uniform_load.specs.Wind.{pressures_of}

-- The `P` pane with the pressures of a pane's wind.
abbrev pub as_pressures : Pane → Pane
as_pressures p = with_wind (ByPressure (pressures_of p.wind).down (pressures_of p.wind).up) p

pub record AsPressuresLaws (p : Pane) : Type 0 where
  -- its pressures are those of the pane's wind
  pub pressures_kept : pressures_of (as_pressures p).wind ≡ pressures_of p.wind
  -- its numbers are among their allowed values where those of the pane are
  pub allowed_kept : T (allowed_pane p) → T (allowed_pane (as_pressures p))
  -- of a `P` pane it is the pane itself
  pub of_pressures : (down up : ℕ) → p.wind ≡ ByPressure down up → as_pressures p ≡ p
