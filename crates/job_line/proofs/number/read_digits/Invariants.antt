-- The loop's invariant of `number::read_digits`: the digits from here on, behind the value so far, are what was to be read; what
-- the digits passed make is below ten to the power of how many they are.
use Rattle.job_line.specs.Number.{digits}
use Rattle.job_line.proofs.Digits.{Begun}
use Rattle.job_line.proofs.number.read_digits.Given as goal

abbrev pub invariant-loop : goal.invariant-loop
invariant-loop l = Begun (digits 4 l.first l.bytes) l.rest l.value l.counter
