-- `lists::GlassLists::of`: the closure for the ids gives the id of the glass at a place, or 0 past the last.
use mathlib.Core.Path.{◌≡◌}
use lib.ListN.{get_or}
use Rattle.job_file.specs.Entries.{glass_ids_of}
use Rattle.placing.proofs.lists.fn.GlassLists.of.from_fn+2.Given as goal

abbrev pub ensures : goal.ensures
ensures l r = (r ≡ get_or (glass_ids_of l.glasses.entry.now) l.g 0) × (l.glasses.exit ≡ l.glasses.entry)
