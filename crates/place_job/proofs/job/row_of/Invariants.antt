-- No more ids are listed than glasses were looked at.
use Rattle.std.proofs.Common.{◌≤◌, length}
use Rattle.place_job.proofs.job.row_of.Given as goal

abbrev pub invariant-loop-glass : goal.invariant-loop-glass
invariant-loop-glass l = length l.passing.items ≤ l.glass-index
