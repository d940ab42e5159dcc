use Rattle.placing.proofs.RowsSoFar.{row_none}
use Rattle.placing.proofs.rows.row_of.Goals as goal

pub loop-number-init : goal.loop-number-init
loop-number-init c = row_none c.of-loaded.result.pane c.args.glasses.now
