-- The laws of the verdict by the dead loads of tempered glass hold: P is no higher than it was, so clause 4 fails only where it did, and
-- the other three clauses do not read it.
--     load_laws    as specs/LoadLaws.antt states them
use mathlib.Core.Path.{◌≡◌}
use mathlib.Core.Logic.{◌⊎◌}
use mathlib.Core.Bool.{Bool, false}
use native.Mathlib.Omega.{arith}
use Rattle.job_glass.specs.declared.Glass.{Glass}
use Rattle.job_pane.specs.declared.Pane.{Pane}
use Rattle.cut_size.specs.Size.{size_fails}
use Rattle.point_load.specs.PointLoad.{point_load_fails}
use Rattle.uniform_load.specs.UniformLoad.{fails_under, uniform_load_fails}
use Rattle.uniform_load.specs.LoadsBefore.{pressure_before}
use Rattle.uniform_load.proofs.LoadsBefore.{loads_before_laws}
use Rattle.clauses.specs.Kind.{kind_fails}
use Rattle.clauses.specs.Verdict.{first_failure, verdict_of}
use Rattle.clauses.specs.LoadLaws.{verdict_before, LoadLaws}
use Rattle.clauses.specs.declared.judging.Verdict.TheVariants.{Passes, Fails}

-- The laws, of any tests, where the fourth is met if it was.
record Kept (a b c before now : Bool) : Type 0 where
  pass : first_failure a b c before ≡ Passes → first_failure a b c now ≡ Passes
  turned :
      (first_failure a b c now ≡ first_failure a b c before)
      ⊎ ((first_failure a b c before ≡ Fails 4) × (first_failure a b c now ≡ Passes))

kept : (a b c before now : Bool) → (before ≡ false → now ≡ false) → Kept a b c before now
kept a b c before now h = record { pass = λ e. grind arith; turned = grind arith }

module _ (p : Pane) (g : Glass) where
  of_tests :
      Kept (kind_fails p g) (size_fails p g) (point_load_fails p g) (fails_under (pressure_before p g) p g) (uniform_load_fails p g)
  of_tests = kept _ _ _ _ _ (loads_before_laws p g).pass_kept

  annealed : g.kind ≡ 1 → verdict_of p g ≡ verdict_before p g
  unfolding verdict_of
  annealed e = rw ((loads_before_laws p g).annealed_kept e)

  pass : verdict_before p g ≡ Passes → verdict_of p g ≡ Passes
  unfolding verdict_of
  pass = of_tests.pass

  kept_or_turned : (verdict_of p g ≡ verdict_before p g) ⊎ ((verdict_before p g ≡ Fails 4) × (verdict_of p g ≡ Passes))
  unfolding verdict_of
  kept_or_turned = of_tests.turned

  pub load_laws : LoadLaws p g
  load_laws = record { annealed_kept = annealed; pass_kept = pass; kept_or_turned = kept_or_turned }
