-- Rows, sheets and ids that state a schedule: document 01, "The placing". They are what a call is told of it.
use Rattle.std.specs.Prelude.{ℕ, ◌≤◌, ◌<◌, ◌≡◌, ◌&&◌, List, ltb, length, get_or}
use Rattle.glass_set.specs.Internal.Member.{Members}
use Rattle.row_placing.specs.Schedule.{Schedule}

-- The row of a pane is the set of the glasses that pass for it.
abbrev pub RowOf : Schedule → ℕ → ℕ → Type 0
RowOf s p row = Members row (λ g. ltb g (length s.glass_ids) && s.passes p g)

abbrev pub RowsOf : Schedule → List ℕ → Type 0
RowsOf s rows = (p : ℕ) → p < length s.pane_ids → RowOf s p (get_or rows p 0)

-- What the placing asks of a schedule: at most 64 glasses, no glass with the id 0, no pane with an id above 9999, no two glasses or
-- panes with one id.
pub record Known (s : Schedule) : Type 0 where
  pub few : length s.glass_ids ≤ 64
  pub id_low : (g : ℕ) → g < length s.glass_ids → 1 ≤ get_or s.glass_ids g 0
  pub id_high : (p : ℕ) → p < length s.pane_ids → get_or s.pane_ids p 0 ≤ 9999
  pub glasses_differ : (i j : ℕ) → i < j → j < length s.glass_ids → get_or s.glass_ids i 0 ≡ get_or s.glass_ids j 0 → ⊥
  pub panes_differ : (i j : ℕ) → i < j → j < length s.pane_ids → get_or s.pane_ids i 0 ≡ get_or s.pane_ids j 0 → ⊥

-- Lists of numbers state a schedule: a row for each pane, and sheets and ids entry by entry. Nothing is asked of the entries past
-- the last glass or pane.
pub record Stated (s : Schedule) (rows sheets64 glass_ids pane_ids : List ℕ) : Type 0 where
  pub known : Known s
  pub a_row_each : length rows ≡ length s.pane_ids
  pub rows_are : RowsOf s rows
  pub sheets_are : (g : ℕ) → g < length s.glass_ids → get_or sheets64 g 0 ≡ get_or s.sheets g 0
  pub glass_ids_are : (g : ℕ) → g < length s.glass_ids → get_or glass_ids g 0 ≡ get_or s.glass_ids g 0
  pub pane_ids_are : (p : ℕ) → p < length s.pane_ids → get_or pane_ids p 0 ≡ get_or s.pane_ids p 0
