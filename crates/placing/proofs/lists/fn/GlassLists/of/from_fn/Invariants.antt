-- `lists::GlassLists::of`: the closure for the stocks gives the stock of the glass at a place, or 0 past the last.
use mathlib.Core.Path.{◌≡◌}
use lib.ListN.{get_or}
use Rattle.job_file.specs.Entries.{stocks_of}
use Rattle.placing.proofs.lists.fn.GlassLists.of.from_fn.Given as goal

abbrev pub ensures : goal.ensures
ensures l r = (r ≡ get_or (stocks_of l.glasses.entry.now) l.g 0) × (l.glasses.exit ≡ l.glasses.entry)
