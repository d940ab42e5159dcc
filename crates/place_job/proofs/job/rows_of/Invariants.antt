-- No more rows are listed than panes were looked at.
use Rattle.std.proofs.Common.{◌≤◌, length}
use Rattle.place_job.proofs.job.rows_of.Given as goal

abbrev pub invariant-loop-pane : goal.invariant-loop-pane
invariant-loop-pane l = length l.rows.items ≤ l.pane-index
