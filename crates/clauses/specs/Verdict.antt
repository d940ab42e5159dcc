-- Documents 01 and 02, "The four clauses": the verdict of a pane and a glass, by the first of the clauses that fails, if one does.
use Rattle.std.specs.Prelude.{Bool, if◌then◌else◌}
use Rattle.job_glass.specs.declared.Glass.{Glass}
use Rattle.job_pane.specs.declared.Pane.{Pane}
use Rattle.cut_size.specs.Size.{size_fails}
use Rattle.point_load.specs.PointLoad.{point_load_fails}
use Rattle.uniform_load.specs.UniformLoad.{uniform_load_fails}
use Rattle.clauses.specs.Kind.{kind_fails}
use Rattle.clauses.specs.declared.judging.Verdict.{Verdict}
use Rattle.clauses.specs.declared.judging.Verdict.TheVariants.{Passes, Fails}

-- The verdict, by whether each of the four clauses fails.
abbrev pub first_failure : (kind size point_load uniform_load : Bool) → Verdict
first_failure kind size point_load uniform_load =
    if kind then Fails 1
    else if size then Fails 2
    else if point_load then Fails 3
    else if uniform_load then Fails 4
    else Passes

unfoldable pub verdict_of : Pane → Glass → Verdict
verdict_of p g = first_failure (kind_fails p g) (size_fails p g) (point_load_fails p g) (uniform_load_fails p g)
