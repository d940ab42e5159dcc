-- The numbers that the loop of `push_fields` has passed are written.
use Rattle.std.proofs.Common.{◌≡◌, ◌+◌, ◌*◌, ◌≤◌, ◌++◌, take}
use Rattle.arrayvec.specs.ArrayString.{array_string_len}
use Rattle.job_line.specs.WrittenNumber.{written_numbers}
use Rattle.report.proofs.line.push_fields.Given as goal

abbrev pub invariant-loop-n : goal.invariant-loop-n
invariant-loop-n l = record {
  bytes : l.text.bytes ≡ l.fn.text.bytes ++ written_numbers (take l.n-index l.numbers);
  room : array_string_len l.text ≤ array_string_len l.fn.text + 5 * l.n-index;
}
