-- Laws of the verdict before document 02, 2026-06, gave tempered glass dead loads of its own, and after it, for a pane and a glass of any
-- values.
use Rattle.std.specs.Prelude.{◌≡◌, ◌⊎◌}
use Rattle.job_glass.specs.declared.Glass.{Glass}
use Rattle.job_pane.specs.declared.Pane.{Pane}
use Rattle.cut_size.specs.Size.{size_fails}
use Rattle.point_load.specs.PointLoad.{point_load_fails}
use Rattle.uniform_load.specs.LoadsBefore.{pressure_before}
use Rattle.uniform_load.specs.UniformLoad.{fails_under}
use Rattle.clauses.specs.Kind.{kind_fails}
use Rattle.clauses.specs.Verdict.{first_failure, verdict_of}
use Rattle.clauses.specs.declared.judging.Verdict.{Verdict}
use Rattle.clauses.specs.declared.judging.Verdict.TheVariants.{Passes, Fails}

-- The verdict as it was, with the maximum of kind 1 for every kind.
abbrev pub verdict_before : Pane → Glass → Verdict
verdict_before p g =
    first_failure (kind_fails p g) (size_fails p g) (point_load_fails p g) (fails_under (pressure_before p g) p g)

pub record LoadLaws (p : Pane) (g : Glass) : Type 0 where
  -- of kind 1 no verdict changed
  pub annealed_kept : g.kind ≡ 1 → verdict_of p g ≡ verdict_before p g
  -- of every kind, nothing changed but that some failures at clause 4 turned into passes
  pub kept_or_turned :
      (verdict_of p g ≡ verdict_before p g) ⊎ ((verdict_before p g ≡ Fails 4) × (verdict_of p g ≡ Passes))
  -- so what passed passes
  pub pass_kept : verdict_before p g ≡ Passes → verdict_of p g ≡ Passes
