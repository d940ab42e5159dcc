-- `file::read_job` meets its contract: the lists of the file stand at the front of the job's arrays.
use mathlib.Core.Path.{◌∙◌}
use Rattle.job_file.proofs.Front.{in_front}
use Rattle.job_file.proofs.file.read_job.Goals as goal

pub invariant_of-job-clause-rules : goal.invariant_of-job-clause-rules
invariant_of-job-clause-rules c =
    let glasses = in_front _ _ _ _ c.copy_to_front.ensures.count c.copy_to_front.ensures.copied ∙ c.deref.ensures.0 in
    let panes = in_front _ _ _ _ c.copy_to_front-2.ensures.count c.copy_to_front-2.ensures.copied ∙ c.deref-2.ensures.0 in
    rw (glasses, panes) c.in_ok-read_lists.ensures.rules

pub returns : goal.returns
returns c =
    let glasses = in_front _ _ _ _ c.copy_to_front.ensures.count c.copy_to_front.ensures.copied ∙ c.deref.ensures.0 in
    let panes = in_front _ _ _ _ c.copy_to_front-2.ensures.count c.copy_to_front-2.ensures.copied ∙ c.deref-2.ensures.0 in
    rw (glasses, panes) c.in_ok-read_lists.ensures.says
