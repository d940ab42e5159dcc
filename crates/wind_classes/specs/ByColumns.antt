-- The figures of Table A2 once more, by column: another author's copy of the standard, held to the rows. The pressures down of N6, C3 and
-- C4 are seen in no verdict, since there the pressure up governs with every glass at every angle, so this copy is what checks them.
use Rattle.std.specs.Prelude.{◌≡◌, [], ◌∷◌, map}
use Rattle.wind_classes.specs.RoofPressures.{roof_rows}

-- N1 to N6, then C1 to C4.
pub record ByColumns : Type 0 where
  pub any_position : map (λ r. r.any_position) roof_rows ≡ 44 ∷ 60 ∷ 95 ∷ 141 ∷ 207 ∷ 280 ∷ 143 ∷ 212 ∷ 312 ∷ 422 ∷ []
  pub general : map (λ r. r.general) roof_rows ≡ 69 ∷ 95 ∷ 149 ∷ 221 ∷ 325 ∷ 439 ∷ 216 ∷ 321 ∷ 473 ∷ 639 ∷ []
  pub near_edges : map (λ r. r.near_edges) roof_rows ≡ 125 ∷ 173 ∷ 270 ∷ 402 ∷ 591 ∷ 799 ∷ 338 ∷ 502 ∷ 739 ∷ 998 ∷ []
