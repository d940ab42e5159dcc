-- `line::read_line` meets its contract: the loop's invariant, `Scanned`, holds behind the letter, is kept by one number more, and
-- says at the newline what the line's numbers are.
use borrow.Author.Rules.{rules}
use lib.ListN.{length-replicate}
use Rattle.job_line.proofs.Lines.{scan_begin, scan_more, scan_end}
use Rattle.job_line.proofs.line.read_line.Goals as goal

pub loop-number-init : goal.loop-number-init
loop-number-init g c = scan_begin _ _ _ _ _ c.in_ok-rest.ensures (length-replicate g.row.N 0)

pub loop-number-preserved : goal.loop-number-preserved
loop-number-preserved g c = search (rules, scan_more)

pub returns : goal.returns
returns g c = scan_end _ _ _ _ _ _ c.loop-number.invariant _ c.loop-number-test.false c.in_ok-rest-2.ensures
