-- A placing by the places of its glasses.
use Rattle.std.specs.Prelude.{ℕ, ◌<◌, ◌≡◌, ◌⊎◌, true, List, Option, length}
use Rattle.matching.specs.Internal.Rows.{way_of}
use Rattle.row_placing.specs.Schedule.{Schedule}
use Rattle.row_placing.specs.Internal.Entries.{entries_held}

-- A number is the place of a glass that passes for a pane.
pub record PassingNumber (s : Schedule) (pane g : ℕ) : Type 0 where
  pub within : g < length s.glass_ids
  pub passing : s.passes pane g ≡ true

-- The same answers as places of glasses, one for each pane. The number that `way_of` gives is 64 for a pane that has none: its entry is
-- `None`, and that of any other pane is `Some` of its glass's place, since no entry has a number that is no glass (`held_are` of `RowsGlazed`).
pub record Holding (s : Schedule) (held : List (Option ℕ)) (ids : List ℕ) : Type 0 where
  pub one_each : length held ≡ length s.pane_ids
  pub each : (p : ℕ) → p < length s.pane_ids → (way_of held p ≡ 64) ⊎ PassingNumber s p (way_of held p)
  pub ids_are : ids ≡ entries_held s.glass_ids held
