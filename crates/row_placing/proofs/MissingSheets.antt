-- How many sheets are missing, from what the placing gives: its group lacks so many, and its answers leave so many panes over.
--     missing_sheets    as specs/MissingSheets.antt states it
use mathlib.Core.Logic.{⊎_elim}
use native.Mathlib.Omega.{arith}
use lib.ListN.{length}
use Rattle.std.proofs.lemmas.Bool.{cases_eq}
use Rattle.row_placing.specs.Schedule.{Schedule}
use Rattle.row_placing.specs.MissingSheets.{MissingSheetsLaw}
use Rattle.row_placing.proofs.MoreSheets.{lacking_le}
use Rattle.row_placing.proofs.NewSheets.{sheets_enough, as_many}

pub missing_sheets : (s : Schedule) → MissingSheetsLaw s
missing_sheets s told ids group placed g = record {
  at_least =
      λ more enough.
      ⊎_elim
      (λ all. omega (arith, all))
      (λ left. omega (arith, g.whole_shortage, lacking_le more enough group (g.if_less left).some_panes))
      (cases_eq placed (length s.pane_ids));
  enough = λ choice passing. sheets_enough ids g.placing choice passing told;
  as_many = λ choice passing. omega (arith, g.placed_is, as_many ids g.placing choice passing);
}
