-- `answers::write_answers`: of its loop holds that the panes below `pane` have been answered.
use lib.ListN.{take}
use Rattle.basics.specs.Lent.{lent}
use Rattle.row_placing.specs.Internal.Steps.{Answered}
use Rattle.row_placing.proofs.answers.write_answers.Given as goal

abbrev pub invariant-loop-pane : goal.invariant-loop-pane
invariant-loop-pane l = Answered l.ids (take l.pane l.held) (lent l.initial.answers l.answers) l.placed
