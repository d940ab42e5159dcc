-- AS 1288, Table A2, roofs: ultimate limit state design pressures for houses by wind class, in units of 0.01 kPa and without their sign.
-- Where the standard prints one decimal, the second is 0.
use Rattle.std.specs.Prelude.{ℕ, List, [], ◌∷◌}

-- A row of the table: the ultimate columns "any position", "general away from edges" and "up to 1.2 m from edges".
pub record RoofRow : Type 0 where
  pub any_position : ℕ
  pub general : ℕ
  pub near_edges : ℕ

abbrev pub roof_row : (any_position general near_edges : ℕ) → RoofRow
roof_row any_position general near_edges = record { any_position = any_position; general = general; near_edges = near_edges }

-- N1 to N6, then C1 to C4.
abbrev pub roof_rows : List RoofRow
roof_rows =
    roof_row 44 69 125
    ∷ roof_row 60 95 173
    ∷ roof_row 95 149 270
    ∷ roof_row 141 221 402
    ∷ roof_row 207 325 591
    ∷ roof_row 280 439 799
    ∷ roof_row 143 216 338
    ∷ roof_row 212 321 502
    ∷ roof_row 312 473 739
    ∷ roof_row 422 639 998
    ∷ []
