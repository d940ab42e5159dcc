-- The loop's invariant of `line::read_line`: the rest of the line is read from here on, behind the numbers that the array already
-- has.
use Rattle.job_line.proofs.Lines.{Scanned}
use Rattle.job_line.proofs.line.read_line.Given as goal

abbrev pub invariant-loop-number : goal.invariant-loop-number
invariant-loop-number g l = Scanned l.letter g.row.N l.bytes l.number-items l.rest l.number-index
