-- The two copies of Table A2 agree.
--     by_columns    as specs/ByColumns.antt states it
use mathlib.Core.Path.{refl}
use Rattle.wind_classes.specs.ByColumns.{ByColumns}

pub by_columns : ByColumns
by_columns = record { any_position = refl; general = refl; near_edges = refl }
