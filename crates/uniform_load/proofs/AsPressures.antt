-- A pane as pressures has the pressures of the pane's wind, and its numbers are allowed: no figure of Table A2 is above 1000.
--     as_pressures_laws    as specs/AsPressures.antt states it
use mathlib.Core.Path.{refl}
use Rattle.basics.proofs.Tests.{and_iff, leb_iff}
use Rattle.job_pane.specs.declared.Pane.{Pane}
use Rattle.job_pane.proofs.Values.{allowed_pane_lem}
use Rattle.uniform_load.specs.AsPressures.{AsPressuresLaws}
use Rattle.uniform_load.proofs.Bounds.{pressures_high}

pub as_pressures_laws : (p : Pane) → AsPressuresLaws p
as_pressures_laws p = record {
  pressures_kept = refl;
  allowed_kept = λ h.
      let wind = pressures_high p.wind (allowed_pane_lem p h).wind_is in
      let k = simp (and_iff, leb_iff) at h in
      simp (and_iff, leb_iff) (k.0, wind);
  of_pressures = λ down up is. rw is;
}
