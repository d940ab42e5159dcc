-- The answer to a question about an accepted file, by what is found of the two ids.
use Rattle.std.specs.Prelude.{Option, Some, None}
use Rattle.causes.specs.Answer.{Answer, gives, refusal}
use Rattle.causes.specs.declared.Cause.TheVariants.{NoPane, NoGlass}
use Rattle.job_glass.specs.declared.Glass.{Glass}
use Rattle.job_pane.specs.declared.Pane.{Pane}
use Rattle.clauses.specs.Verdict.{verdict_of}
use Rattle.clauses.specs.declared.judging.Verdict.{Verdict}

-- What is answered by the pane and the glass that were found, if they were.
abbrev pub found_answer : Option Pane → Option Glass → Answer Verdict
found_answer None glass = refusal NoPane 0
found_answer (Some p) None = refusal NoGlass 0
found_answer (Some p) (Some g) = gives (verdict_of p g)
