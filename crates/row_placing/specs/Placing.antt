-- Document 01, "The placing", and demand 2: what may be given to panes. A pane has no glass but one that passes for it, and a glass goes
-- to no more panes than it has sheets.
use Rattle.std.specs.Prelude.{ℕ, ◌+◌, ◌≤◌, ◌<◌, ◌≡◌, ◌⊎◌, true, List, [], ◌∷◌, eqb, length, get_or, if◌then◌else◌}
use Rattle.row_placing.specs.Schedule.{Schedule}

-- How often an id stands in a list.
unfoldable pub times : ℕ → List ℕ → ℕ
times id [] = 0
times id (x ∷ xs) = (if eqb x id then 1 else 0) + times id xs

-- How many entries of a list are not 0.
unfoldable pub nonzero : List ℕ → ℕ
nonzero [] = 0
nonzero (x ∷ xs) = (if eqb x 0 then 0 else 1) + nonzero xs

-- A number is the id of a glass, at some place, that passes for the pane at place p.
pub record PassingId (s : Schedule) (p id : ℕ) : Type 0 where
  pub place : ℕ
  pub within : place < length s.glass_ids
  pub is_id : get_or s.glass_ids place 0 ≡ id
  pub passing : s.passes p place ≡ true

-- A way to give panes glasses, as a list with an entry for each pane in order: the id of a glass that passes for it, or 0 where
-- it has none. No glass is given more often than it has sheets. In an accepted file ids differ, and none is 0.
pub record Placing (s : Schedule) (ids : List ℕ) : Type 0 where
  pub one_each : length ids ≡ length s.pane_ids
  pub passing : (i : ℕ) → i < length s.pane_ids → (get_or ids i 0 ≡ 0) ⊎ PassingId s i (get_or ids i 0)
  pub in_stock : (j : ℕ) → j < length s.glass_ids → times (get_or s.glass_ids j 0) ids ≤ get_or s.sheets j 0

-- Where a pane has no glass, every sheet that it could have is given away.
abbrev pub NoneToSpare : Schedule → List ℕ → Type 0
NoneToSpare s ids =
    (i : ℕ) → i < length s.pane_ids → get_or ids i 0 ≡ 0 →
    (j : ℕ) → j < length s.glass_ids → s.passes i j ≡ true →
    times (get_or s.glass_ids j 0) ids ≡ get_or s.sheets j 0

-- A placing that leaves no pane without a glass.
pub record FullPlacing (s : Schedule) : Type 0 where
  pub ids : List ℕ
  pub placing : Placing s ids
  pub every_pane : nonzero ids ≡ length s.pane_ids
