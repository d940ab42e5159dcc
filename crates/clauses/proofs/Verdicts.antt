-- The verdict, by the tests that led to it.
--     fails_1 .. fails_4, passes    each verdict
use mathlib.Core.Path.{◌≡◌}
use mathlib.Core.Bool.{true, false}
use Rattle.job_glass.specs.declared.Glass.{Glass}
use Rattle.job_pane.specs.declared.Pane.{Pane}
use Rattle.cut_size.specs.Size.{size_fails}
use Rattle.point_load.specs.PointLoad.{point_load_fails}
use Rattle.uniform_load.specs.UniformLoad.{uniform_load_fails}
use Rattle.clauses.specs.Kind.{kind_fails}
use Rattle.clauses.specs.Verdict.{verdict_of}
use Rattle.clauses.specs.declared.judging.Verdict.TheVariants.{Passes, Fails}

module _ (p : Pane) (g : Glass) where
  pub fails_1 : kind_fails p g ≡ true → verdict_of p g ≡ Fails 1
  unfolding verdict_of
  fails_1 e = rw e

  pub fails_2 : kind_fails p g ≡ false → size_fails p g ≡ true → verdict_of p g ≡ Fails 2
  unfolding verdict_of
  fails_2 k e = rw (k, e)

  pub fails_3 : kind_fails p g ≡ false → size_fails p g ≡ false → point_load_fails p g ≡ true → verdict_of p g ≡ Fails 3
  unfolding verdict_of
  fails_3 k s e = rw (k, s, e)

  pub fails_4 :
      kind_fails p g ≡ false → size_fails p g ≡ false → point_load_fails p g ≡ false → uniform_load_fails p g ≡ true →
      verdict_of p g ≡ Fails 4
  unfolding verdict_of
  fails_4 k s w e = rw (k, s, w, e)

  pub passes :
      kind_fails p g ≡ false → size_fails p g ≡ false → point_load_fails p g ≡ false → uniform_load_fails p g ≡ false →
      verdict_of p g ≡ Passes
  unfolding verdict_of
  passes k s w e = rw (k, s, w, e)
