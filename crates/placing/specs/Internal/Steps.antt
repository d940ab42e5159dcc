-- What the functions of this crate leave.
use Rattle.std.specs.Prelude.{ℕ, ◌≡◌, List, length}
use Rattle.row_placing.specs.Schedule.{Schedule}
use Rattle.row_placing.specs.Internal.Stated.{RowsOf}

-- What `rows_of` gives: the row of each pane, and none past the last.
pub record JobRows (s : Schedule) (rows : List ℕ) : Type 0 where
  pub a_row_each : length rows ≡ length s.pane_ids
  pub of_panes : RowsOf s rows
