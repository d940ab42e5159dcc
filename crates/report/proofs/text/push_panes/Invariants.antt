-- The lines of the panes that the loop of `push_panes` has passed are written.
use Rattle.std.proofs.Common.{◌≡◌, ◌+◌, ◌*◌, ◌≤◌, ◌++◌, length}
use Rattle.arrayvec.specs.ArrayString.{array_string_len}
use Rattle.job_file.specs.Entries.{pane_ids_of}
use Rattle.report.specs.Text.{pane_lines}
use Rattle.report.proofs.text.push_panes.Given as goal

abbrev pub invariant-loop-pane : goal.invariant-loop-pane
invariant-loop-pane l = record {
  bytes : l.text.bytes ≡ l.fn.text.bytes ++ pane_lines (pane_ids_of l.panes) l.answers (length l.yielded);
  room : array_string_len l.text ≤ array_string_len l.fn.text + 10 * length l.yielded;
}
