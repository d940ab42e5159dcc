-- `report` meets its contract: the whole text is copied to the front of the buffer.
use Rattle.std.proofs.Common.{rules, arith}
use Rattle.std.proofs.lemmas.Grind.{common_steps}
use Rattle.report.proofs.report.Goals as goal

pub returns : goal.returns
returns c = record {
  text = c.text_of-whole.result.bytes;
  of_file = c.text_of-whole.ensures;
  count_is = search rules;
  fits = grind (arith, common_steps);
  written = record { front = grind (arith, common_steps); later_kept = grind (arith, common_steps) };
}
