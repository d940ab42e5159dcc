-- `number::read_digits` meets its contract: the loop's invariant, `Begun`, is kept by one digit more, and says, where no digit is
-- next or none may come, that the value so far is what was to be read.
use Rattle.job_line.proofs.Digits.{begun_digit, begun_stop, begun_none}
use Rattle.job_line.proofs.number.read_digits.Goals as goal
use Rattle.job_line.proofs.number.read_digits.Goals.{else-loop-test, then-loop-test+in_default}

pub loop-preserved : goal.loop-preserved
loop-preserved c =
    let digit = c.in-Some.ensures in
    begun_digit _ _ _ _ c.loop.invariant _ _ c.loop-test.true digit.value digit.small

pub returns : goal.returns
returns c = elim c.loop-test.branch [
  | else-loop-test w ↦ begun_none _ _ _ _ c.loop.invariant w.loop-test.false
  | then-loop-test+in_default w ↦ begun_stop _ _ _ _ c.loop.invariant w.in_default.ensures.value
]
