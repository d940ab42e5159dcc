-- `verdict` meets its contract: what is found of the two ids in the job that was read.
use mathlib.Core.Path.{◌≡◌, ap, ◌∙◌}
use Rattle.std.specs.Prelude.{nat_eq, find}
use Rattle.job_glass.specs.declared.Glass.{Glass}
use Rattle.job_pane.specs.declared.Pane.{Pane}
use Rattle.job_file.specs.Internal.Job.{glasses_of, panes_of}
use Rattle.clauses.proofs.Answers.{answer_found}
use Rattle.clauses.proofs.verdict.Goals as goal

pub returns : goal.returns
returns c =
    let job = c.in_ok-job.job in
    let has_pane = λ (p : Pane). nat_eq p.id c.args.pane in
    let has_glass = λ (g : Glass). nat_eq g.id c.args.glass in
    let pane : c.find_by_id.result ≡ find has_pane (panes_of job) = c.find_by_id.ensures ∙ ap (find has_pane) c.panes.ensures.0 in
    let glass : c.find_by_id-2.result ≡ find has_glass (glasses_of job) = c.find_by_id-2.ensures ∙ ap (find has_glass) c.glasses.ensures.0 in
    rw (c.judge_found.ensures, pane, glass, ← c.in_ok-job.ensures)
    (answer_found (glasses_of job) (panes_of job) c.args.pane c.args.glass)
