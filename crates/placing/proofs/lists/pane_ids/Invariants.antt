-- `lists::pane_ids`: of its loop holds that the ids of the panes so far are listed.
use mathlib.Core.Path.{◌≡◌}
use lib.ListN.{take}
use Rattle.job_file.specs.Entries.{pane_ids_of}
use Rattle.placing.proofs.lists.pane_ids.Given as goal

abbrev pub invariant-loop-pane : goal.invariant-loop-pane
invariant-loop-pane l = l.ids.items ≡ pane_ids_of (take l.pane-index l.panes)
