-- `text_of_job` meets its contract: the text fits, and it is that of a placing of the job.
use Rattle.std.proofs.Common.{arith, List, ℕ, replicate, length-take}
use Rattle.basics.specs.Lent.{lent}
use Rattle.job_file.specs.Internal.Job.{glasses_of, panes_of}
use Rattle.report.proofs.Printed.{printable, printed}
use Rattle.report.proofs.text_of_job.Goals as goal

-- The lists that are lent for the placing.
abbrev zeros : List ℕ
zeros = replicate 256 0

pub placing_text-requires : goal.placing_text-requires
placing_text-requires c =
    let p = c.place_panes-counts in
    let job = c.args.job.now in
    let able =
    printable (glasses_of job) (panes_of job) job.rules p.result (lent zeros p.new.answers) (lent zeros p.new.group) p.ensures in (
      rw c.panes.ensures.0 able.pane_answers,
      able.group_short,
      omega (arith, able.placed_short),
      omega (arith, length-take p.result.group p.new.group, p.auto.group),
    )

pub returns : goal.returns
returns c =
    let p = c.place_panes-counts in
    let job = c.args.job.now in
    printed (glasses_of job) (panes_of job) job.rules p.result (lent zeros p.new.answers) (lent zeros p.new.group) p.ensures
    c.placing_text.result.bytes (rw c.panes.ensures.0 at c.placing_text.ensures)
