-- How many sheets are missing where panes are left over, for who orders more: it follows from the definitions. Where n panes are left over,
-- fewer than n sheets more are never enough; n are, if some glass passes for each of these panes: one sheet more of it, whichever it is.
use Rattle.std.specs.Prelude.{ℕ, ◌+◌, ◌-◌, ◌≤◌, ◌<◌, ◌≡◌, true, ◌&&◌, List, eqb, length, get_or, if◌then◌else◌}
use Rattle.ids.specs.Ids.{Distinct}
use Rattle.ranges.specs.Ranges.{sum_to}
use Rattle.row_placing.specs.Schedule.{Schedule}
use Rattle.row_placing.specs.Placing.{FullPlacing}
use Rattle.row_placing.specs.Glazing.{Glazing}

-- The same glasses and panes, with other sheets.
abbrev pub with_sheets : Schedule → List ℕ → Schedule
with_sheets s sheets = record { glass_ids = s.glass_ids; sheets = sheets; pane_ids = s.pane_ids; passes = s.passes }

-- With so many sheets more of each glass, by its place, every pane can be placed.
pub record EnoughWith (s : Schedule) (more : ℕ → ℕ) : Type 0 where
  pub sheets : List ℕ
  pub sheets_are : (g : ℕ) → g < length s.glass_ids → get_or sheets g 0 ≡ get_or s.sheets g 0 + more g
  pub full : FullPlacing (with_sheets s sheets)

-- The ids of glasses differ, and none is 0, as in every accepted file.
pub record GlassIds (s : Schedule) : Type 0 where
  pub differ : Distinct s.glass_ids
  pub not_zero : (g : ℕ) → g < length s.glass_ids → 0 < get_or s.glass_ids g 0

-- For each pane that is left over, the place of a glass that passes for it.
abbrev pub PassingChoice : Schedule → (ids : List ℕ) → (choice : ℕ → ℕ) → Type 0
PassingChoice s ids choice =
    (i : ℕ) → i < length s.pane_ids → get_or ids i 0 ≡ 0 →
    (choice i < length s.glass_ids) × (s.passes i (choice i) ≡ true)

-- How many of these panes have a glass as their choice.
abbrev pub chosen : Schedule → (ids : List ℕ) → (choice : ℕ → ℕ) → (g : ℕ) → ℕ
chosen s ids choice g = sum_to (λ i. if eqb (get_or ids i 0) 0 && eqb (choice i) g then 1 else 0) (length s.pane_ids)

-- What is missing of a schedule of which so many panes were placed, by a list of ids that leaves the others over.
pub record MissingSheets (s : Schedule) (ids : List ℕ) (placed : ℕ) : Type 0 where
  -- no fewer sheets more than panes are left over are enough
  pub at_least : (more : ℕ → ℕ) → EnoughWith s more → length s.pane_ids - placed ≤ sum_to more (length s.glass_ids)
  -- one sheet more of a passing glass for each pane that is left over is enough
  pub enough : (choice : ℕ → ℕ) → PassingChoice s ids choice → EnoughWith s (chosen s ids choice)
  -- and these are as many sheets as panes are left over
  pub as_many :
      (choice : ℕ → ℕ) → PassingChoice s ids choice →
      sum_to (chosen s ids choice) (length s.glass_ids) ≡ length s.pane_ids - placed

-- It holds of whatever the placing gives. Only `enough` needs what is asked of the ids.
abbrev pub MissingSheetsLaw : Schedule → Type 0
MissingSheetsLaw s =
    GlassIds s → (ids group : List ℕ) (placed : ℕ) → Glazing s ids group placed → MissingSheets s ids placed
