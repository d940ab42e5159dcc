-- The row that document 02 states for tempered glass holds, by reading the table.
--     tempered_row    as specs/TemperedRow.antt states it
use mathlib.Core.Path.{refl}
use Rattle.bench_examples.specs.TemperedRow.{TemperedRow}

pub tempered_row : TemperedRow
tempered_row = record { annealed = refl; heat_strengthened = refl; toughened = refl; monolithic = refl }
