-- What `place_rows` promises: the placing of whatever schedule its rows, sheets and ids state.
use Rattle.std.specs.Prelude.{ℕ, ◌≤◌, ◌≡◌, List, Option, length}
use Rattle.glass_set.specs.Internal.Member.{has}
use Rattle.matching.specs.Internal.Matching.{Greatest}
use Rattle.matching.specs.Internal.Rows.{task_of, way_of, GlassesOrNone}
use Rattle.row_placing.specs.Schedule.{Schedule}
use Rattle.row_placing.specs.Internal.Entries.{entries_held}
use Rattle.row_placing.specs.Placing.{nonzero}
use Rattle.row_placing.specs.Internal.Holding.{Holding}
use Rattle.row_placing.specs.Internal.Stated.{Stated}
use Rattle.row_placing.specs.Internal.Steps.{group_due}
use Rattle.basics.specs.Lent.{Lent, Wrote}
use Rattle.row_placing.specs.declared.PlaceCounts.{PlaceCounts}
use Rattle.row_placing.specs.Glazed.{Glazed}

-- A call placed the panes of a schedule, and `held` has the places of their glasses.
pub record HeldGlazed (s : Schedule) (held : List (Option ℕ)) (r : PlaceCounts) (answers group : Lent) : Type 0 where
  pub glazed : Glazed s r answers group
  pub holding : Holding s held glazed.ids

-- The promise, for any rows, sheets and ids. Whatever schedule they state, its panes were placed. Where they state none, as with
-- ids that don't tell panes apart, the glasses held are still a greatest matching by the rows, each entry none or the number of a glass,
-- the answers are the ids at the numbers held, placed counts those that are not 0, and each list keeps its later entries. The group list got nothing where placed
-- is the number of panes, and else the ids of the panes that can have no glass but a tight one: from the lowest up, each once, and
-- none above 9999.
pub record RowsGlazed
    (rows sheets64 glass_ids pane_ids : List ℕ) (held : List (Option ℕ)) (r : PlaceCounts) (answers group : Lent) : Type 0 where
  pub of_any : (s : Schedule) → Stated s rows sheets64 glass_ids pane_ids → HeldGlazed s held r answers group
  pub wanted_is : r.wanted ≡ length rows
  pub tight : ℕ
  pub held_greatest : Greatest (task_of rows sheets64) (way_of held) (has tight)
  pub held_are : GlassesOrNone rows held
  pub answers_are : Wrote (entries_held glass_ids held) answers
  pub placed_is : r.placed ≡ nonzero (entries_held glass_ids held)
  pub few_placed : r.placed ≤ length rows
  pub group_is : r.group ≡ length (group_due r.placed pane_ids rows tight)
  pub group_are : Wrote (group_due r.placed pane_ids rows tight) group
  pub few_listed : r.group ≤ length rows
