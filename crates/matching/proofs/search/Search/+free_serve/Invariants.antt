-- The measure is twice the number of unvisited glasses, and one more for `free`: `serve` marks a glass before it calls `free`, and
-- `free` calls `serve` with no fewer marked. What the loops keep: no pane has moved, and the glasses that were marked on the way
-- are exhausted; in `free` also, of the panes passed, those that hold the glass can have none but marked ones.
use Rattle.std.proofs.Common.{◌≡◌, ◌≤◌, ◌+◌, ◌-◌, length}
use Rattle.glass_set.specs.Internal.Member.{unvisited}
use Rattle.matching.specs.Internal.Steps.{Grown}
use Rattle.matching.proofs.Freeing.{Passed}
use Rattle.matching.proofs.search.Search.+free_serve.Given as goal

abbrev pub decreases-free : goal.decreases-free
decreases-free l = unvisited l.seen + unvisited l.seen + 1

abbrev pub decreases-serve : goal.decreases-serve
decreases-serve l = unvisited l.seen + unvisited l.seen

abbrev pub invariant-free-loop-pane : goal.invariant-free-loop-pane
invariant-free-loop-pane l = record {
  unchanged : l.held ≡ l.initial.held;
  passed : Passed l.self.rows.now l.initial.held l.glass l.self.spare l.seen l.grown l.from;
  within : l.from ≤ length l.initial.held;
}

abbrev pub decreases-free-loop-pane : goal.decreases-free-loop-pane
decreases-free-loop-pane l = length l.initial.held - l.from

abbrev pub invariant-serve-loop-glass : goal.invariant-serve-loop-glass
invariant-serve-loop-glass l = record {
  unchanged : l.held ≡ l.initial.held;
  grown : Grown l.self.rows.now l.initial.held l.self.spare l.seen l.marked;
}

abbrev pub decreases-serve-loop-glass : goal.decreases-serve-loop-glass
decreases-serve-loop-glass l = unvisited l.marked
