-- The pressures of a wind class, 1 to 10 for N1 to N6 and C1 to C4, in zone 1 or 2: documents 01 and 02, "The job file".
use Rattle.std.specs.Prelude.{ℕ, ◌-◌, eqb, get_or, if◌then◌else◌}
use Rattle.wind_classes.specs.RoofPressures.{RoofRow, roof_row, roof_rows}
use Rattle.wind_classes.specs.declared.Pressures.{Pressures}

-- The row of a class. No file has class 0, which reads the row of class 1, nor a class past the table, of which every pressure is 0.
abbrev pub row_of : (class : ℕ) → RoofRow
row_of class = get_or roof_rows (class - 1) (roof_row 0 0 0)

-- Down is the column `any_position`; up is `near_edges` in zone 2 and `general` in zone 1.
abbrev pub class_pressures : (class zone : ℕ) → Pressures
class_pressures class zone = record {
  down = (row_of class).any_position;
  up = if eqb zone 2 then (row_of class).near_edges else (row_of class).general;
}
