-- One number more, of at most four digits, is written behind the others.
use Rattle.std.proofs.Common.{arith}
use Rattle.std.proofs.lemmas.Grind.{common_steps}
use Rattle.report.proofs.Written.{fields_next}
use Rattle.report.proofs.line.push_fields.Goals as goal

pub loop-n-preserved : goal.loop-n-preserved
loop-n-preserved c = record { bytes = grind (arith, common_steps, fields_next); room = grind (arith, c.requires.0 c.loop-n.n-index) }
