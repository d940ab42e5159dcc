-- Documents 01 and 02, "The placing", and demands 2 and 3: what the placing is to give. No placing places more. The number placed is that of
-- all panes exactly where some placing leaves none without a glass; where it is not, there is a short group, listed from its lowest id up.
-- The last two parts are ours: the group shows the whole shortage. How the lent lists are written is `Glazed`.
use Rattle.std.specs.Prelude.{ℕ, ◌-◌, ◌≤◌, ◌≡◌, List, [], length}
use Rattle.rising_ids.specs.Rises.{Rises}
use Rattle.row_placing.specs.Schedule.{Schedule}
use Rattle.row_placing.specs.Placing.{nonzero, Placing, NoneToSpare, FullPlacing}
use Rattle.row_placing.specs.ShortGroup.{PaneGroup, lacking, ShortGroup}

-- An id, or 0, for each pane; the ids of a group; and how many panes are placed.
pub record Glazing (s : Schedule) (ids group : List ℕ) (placed : ℕ) : Type 0 where
  pub placing : Placing s ids
  pub none_to_spare : NoneToSpare s ids
  pub placed_is : placed ≡ nonzero ids
  -- every pane is placed exactly where that can be done; `all_placed` follows from `placing` and `placed_is`, `all_placeable` from these
  -- and `most_placed`
  pub all_placed : placed ≡ length s.pane_ids → FullPlacing s
  pub all_placeable : FullPlacing s → placed ≡ length s.pane_ids
  -- of all placings, none places more
  pub most_placed : (other : List ℕ) → Placing s other → nonzero other ≤ placed
  -- the group is empty where all are placed, and else short
  pub if_equal : placed ≡ length s.pane_ids → group ≡ []
  pub if_less : (placed ≡ length s.pane_ids → ⊥) → ShortGroup s group
  -- each id of the group is below the next
  pub rises : Rises group
  -- beyond what is asked: the group lacks as many sheets as panes are left over; no group lacks more, which follows from `placing` and
  -- `placed_is`
  pub whole_shortage : lacking s group ≡ length s.pane_ids - placed
  pub no_more_lacking : (other : List ℕ) → PaneGroup s other → lacking s other ≤ length s.pane_ids - placed
