-- `rows::row_of`: of its loop holds that the row has the bits of the glasses so far.
use Rattle.placing.proofs.RowsSoFar.{RowTo}
use Rattle.placing.proofs.rows.row_of.Given as goal

abbrev pub invariant-loop-number : goal.invariant-loop-number
invariant-loop-number l = RowTo l.loaded.pane l.glasses l.number l.row
