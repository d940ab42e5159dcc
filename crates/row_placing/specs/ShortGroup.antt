-- Document 01, "The placing", and demand 3: why panes can't all be placed. All glasses that pass for at least one pane of a group have
-- fewer sheets together than the group has panes. A group is a list of pane ids.
use Rattle.std.specs.Prelude.{ℕ, ◌-◌, ◌<◌, ◌≡◌, Bool, ◌&&◌, List, length, get_or, if◌then◌else◌}
use Rattle.ids.specs.Ids.{among, Distinct}
use Rattle.ranges.specs.Ranges.{sum_to, any_to}
use Rattle.row_placing.specs.Schedule.{Schedule}

-- Whether a glass passes for at least one pane of a group.
abbrev pub suits : Schedule → List ℕ → ℕ → Bool
suits s group g = any_to (λ p. among (get_or s.pane_ids p 0) group && s.passes p g) (length s.pane_ids)

-- The sheets of all those glasses: each glass is counted once, however many panes it passes for.
abbrev pub sheets_for : Schedule → List ℕ → ℕ
sheets_for s group = sum_to (λ g. if suits s group g then get_or s.sheets g 0 else 0) (length s.glass_ids)

-- A number is the id of a pane, at some place.
pub record PaneId (s : Schedule) (id : ℕ) : Type 0 where
  pub place : ℕ
  pub within : place < length s.pane_ids
  pub is_id : get_or s.pane_ids place 0 ≡ id

-- Some panes, each once.
pub record PaneGroup (s : Schedule) (group : List ℕ) : Type 0 where
  pub of_panes : (k : ℕ) → k < length group → PaneId s (get_or group k 0)
  pub each_once : Distinct group

-- How many sheets a group lacks: its panes less the sheets for it, and 0 where there are enough.
abbrev pub lacking : Schedule → List ℕ → ℕ
lacking s group = length group - sheets_for s group

-- Some panes, at least one and each once, for which there are fewer sheets than panes.
pub record ShortGroup (s : Schedule) (group : List ℕ) : Type 0 where
  pub not_empty : 0 < length group
  pub some_panes : PaneGroup s group
  pub short : sheets_for s group < length group
