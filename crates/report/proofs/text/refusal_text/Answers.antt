-- A cause's number has two digits at most.
use Rattle.std.proofs.Common.{arith}
use Rattle.causes.proofs.Numbers.{numbered}
use Rattle.report.proofs.text.refusal_text.Goals as goal

pub push_field-requires : goal.push_field-requires
push_field-requires c = (omega (arith, (numbered c.args.refusal.cause).two_digits, c.from.ensures), grind arith)
