-- Laws of placings and short groups, from their definitions alone: the two halves of demand 3 agree. They are of any schedule, whose ids may
-- repeat or be 0, and which may have any number of glasses.
use Rattle.std.specs.Prelude.{ℕ, ◌-◌, ◌≤◌, ◌<◌, ◌≡◌, true, List, length, get_or}
use Rattle.ids.specs.Ids.{among}
use Rattle.row_placing.specs.Schedule.{Schedule}
use Rattle.row_placing.specs.Placing.{nonzero, Placing, FullPlacing}
use Rattle.row_placing.specs.ShortGroup.{PaneGroup, lacking, ShortGroup}
use Rattle.row_placing.specs.Glazing.{Glazing}

pub record PlacingLaws (s : Schedule) : Type 0 where
  -- a placing places at most every pane
  pub at_most : (ids : List ℕ) → Placing s ids → nonzero ids ≤ length s.pane_ids
  -- where there is a short group, no placing leaves every pane with a glass
  pub short_group : (group : List ℕ) → ShortGroup s group → FullPlacing s → ⊥
  -- no group lacks more sheets than a placing leaves panes over
  pub lacking_most :
      (ids group : List ℕ) → Placing s ids → PaneGroup s group → lacking s group ≤ length s.pane_ids - nonzero ids
  -- where one lacks as many, every pane that is left over is in it
  pub left_over :
      (ids group : List ℕ) → Placing s ids → PaneGroup s group → lacking s group ≡ length s.pane_ids - nonzero ids →
      (i : ℕ) → i < length s.pane_ids → get_or ids i 0 ≡ 0 → among (get_or s.pane_ids i 0) group ≡ true
  -- whatever the placing gives, the number placed is the same
  pub one_number :
      (ids group : List ℕ) (placed : ℕ) → Glazing s ids group placed →
      (other_ids other_group : List ℕ) (other : ℕ) → Glazing s other_ids other_group other → placed ≡ other
