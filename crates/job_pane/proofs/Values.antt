-- A pane whose numbers pass the test has them within their bounds.
use native.Mathlib.Omega.{arith}
use lib.Dec.{T, eqb, eqb→eq}
use Rattle.basics.proofs.Tests.{and_iff, leb_iff, one_of}
use Rattle.job_pane.specs.PaneLine.{allowed_pane}
use Rattle.job_pane.specs.StatedWind.{allowed_wind}
use Rattle.job_pane.specs.Internal.Values.{WindValues, PaneValues}
use Rattle.job_pane.specs.declared.Pane.{Pane}
use Rattle.job_pane.specs.declared.Wind.{Wind}
use Rattle.job_pane.specs.declared.Wind.TheVariants.{ByPressure, ByClass}

allowed_wind_lem : (wind : Wind) → T (allowed_wind wind) → WindValues wind
allowed_wind_lem (ByPressure down up) h = simp (and_iff, leb_iff) at h
allowed_wind_lem (ByClass class zone) h =
    let k = simp (and_iff, leb_iff) at h in
    (omega arith, omega arith, omega arith, omega arith)

pub allowed_pane_lem : (p : Pane) → T (allowed_pane p) → PaneValues p
allowed_pane_lem p h =
    let k = simp (and_iff, leb_iff) at h in
    record {
      id_low = omega arith;
      id_high = omega arith;
      edges_is = one_of p.edges 2 (eqb p.edges 4) (eqb→eq p.edges 4) k.0.0.0.0.0.0.1;
      angle_high = omega arith;
      awning_high = omega arith;
      top_high = omega arith;
      w_low = omega arith;
      w_high = omega arith;
      h_low = omega arith;
      h_high = omega arith;
      wind_is = allowed_wind_lem p.wind k.1;
    }
