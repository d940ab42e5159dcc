-- The loop's invariant: no pane of the blocks passed holds the glass. The panes that are left are fewer each time.
use Rattle.std.proofs.Common.{length, ◌-◌}
use Rattle.matching.specs.Internal.Holders.{NoneBefore}
use Rattle.matching.proofs.holders.next_holder.Given as goal

abbrev pub invariant-loop-start : goal.invariant-loop-start
invariant-loop-start l = NoneBefore l.held l.glass l.from l.start

abbrev pub decreases-loop-start : goal.decreases-loop-start
decreases-loop-start l = length l.held - l.start
