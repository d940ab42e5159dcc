-- No more jobs are counted than arguments were passed.
use Rattle.std.proofs.Common.{◌<◌}
use Rattle.place_job.proofs.main.Given as goal

abbrev pub invariant-loop-i : goal.invariant-loop-i
invariant-loop-i l = (l.jobs < l.i) × (l.wrong < l.i)
