-- The two rows that document 02 states hold, by reading the table.
--     wind_rows    as specs/WindRows.antt states them
use mathlib.Core.Path.{refl}
use Rattle.bench_examples.specs.WindRows.{WindRows}

pub wind_rows : WindRows
wind_rows = record { n1_general = refl; c4_near_edges = refl }
