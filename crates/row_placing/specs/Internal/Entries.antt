-- Entries of a list by their places, and some panes of a schedule.
use Rattle.std.specs.Prelude.{ℕ, Option, Some, None, List, map, get_or}
use Rattle.row_placing.specs.Schedule.{Schedule}

-- The entries of a list at some places: 0 for a place past its end.
abbrev pub entries_at : List ℕ → List ℕ → List ℕ
entries_at xs places = map (λ i. get_or xs i 0) places

-- The entry of a list at a place that is held; 0 where none is held, or a place past the list's end. Then the same for a list of places.
abbrev pub entry_held : List ℕ → Option ℕ → ℕ
entry_held xs None = 0
entry_held xs (Some place) = get_or xs place 0

abbrev pub entries_held : List ℕ → List (Option ℕ) → List ℕ
entries_held xs held = map (entry_held xs) held

-- Some panes of a schedule, by their places, with other sheets.
abbrev pub some_panes : Schedule → List ℕ → List ℕ → Schedule
some_panes s places sheets = record {
  glass_ids = s.glass_ids;
  sheets = sheets;
  pane_ids = entries_at s.pane_ids places;
  passes = λ p g. s.passes (get_or places p 0) g;
}
