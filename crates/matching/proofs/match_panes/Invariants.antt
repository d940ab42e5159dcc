-- The loop's invariant: how the placing stands when the panes below `pane` have had their turn.
use Rattle.matching.proofs.Standing.{Standing}
use Rattle.matching.proofs.match_panes.Given as goal

abbrev pub invariant-loop-pane : goal.invariant-loop-pane
invariant-loop-pane l = Standing l.rows l.fn.sheets l.held l.stock l.tight l.pane
