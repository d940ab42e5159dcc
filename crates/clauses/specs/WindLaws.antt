-- Laws of the verdict by a pane's wind, for a pane and a glass of any values.
use Rattle.std.specs.Prelude.{ℕ, ◌≡◌}
use Rattle.job_glass.specs.declared.Glass.{Glass}
use Rattle.job_pane.specs.OtherWind.{with_wind}
use Rattle.job_pane.specs.declared.Pane.{Pane}
use Rattle.job_pane.specs.declared.Wind.TheVariants.{ByPressure, ByClass}
use Rattle.wind_classes.specs.ClassPressures.{class_pressures}
use Rattle.wind_classes.specs.declared.Pressures.{Pressures}
use Rattle.uniform_load.specs.AsPressures.{as_pressures}
use Rattle.clauses.specs.Verdict.{verdict_of}

pub record WindLaws (p : Pane) (g : Glass) : Type 0 where
  -- a pane is judged by the pressures of its wind, whichever letter states it
  pub by_pressures : verdict_of (as_pressures p) g ≡ verdict_of p g
  -- and so, in any class and zone, by those that the table gives for them
  pub by_class :
      (class zone : ℕ) →
      let pressures : Pressures = class_pressures class zone in
      verdict_of (with_wind (ByClass class zone) p) g ≡ verdict_of (with_wind (ByPressure pressures.down pressures.up) p) g
