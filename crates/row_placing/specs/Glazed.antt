-- What a call that places leaves, in its result and in the two lent lists: document 01, "The placing".
use Rattle.std.specs.Prelude.{ℕ, ◌≡◌, List, length}
use Rattle.row_placing.specs.Schedule.{Schedule}
use Rattle.row_placing.specs.Glazing.{Glazing}
use Rattle.basics.specs.Lent.{Lent, Wrote}
use Rattle.row_placing.specs.declared.PlaceCounts.{PlaceCounts}

-- A call placed the panes of a schedule: there is a placing, the result has its counts, and the lists have its ids.
pub record Glazed (s : Schedule) (r : PlaceCounts) (answer_list group_list : Lent) : Type 0 where
  pub ids : List ℕ
  pub group_ids : List ℕ
  pub glazing : Glazing s ids group_ids r.placed
  pub wanted_is : r.wanted ≡ length s.pane_ids
  pub group_is : r.group ≡ length group_ids
  pub answers_written : Wrote ids answer_list
  pub group_written : Wrote group_ids group_list
