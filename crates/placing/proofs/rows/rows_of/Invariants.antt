-- `rows::rows_of`: of its loop holds that the panes so far have their rows.
use Rattle.job_file.specs.Internal.Job.{glasses_of, panes_of}
use Rattle.job_file.specs.Entries.{stocks_of}
use Rattle.placing.specs.FileSchedule.{schedule_of}
use Rattle.placing.proofs.RowsSoFar.{RowsTo}
use Rattle.placing.proofs.rows.rows_of.Given as goal

abbrev pub invariant-loop-pane : goal.invariant-loop-pane
invariant-loop-pane l = RowsTo (schedule_of (glasses_of l.job) (stocks_of (glasses_of l.job)) (panes_of l.job)) l.pane-index l.rows.items
