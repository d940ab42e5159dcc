-- Document 01, "The placing", of panes and glasses by their numbers, counted from 0. Nothing here knows of a file, a verdict or
-- a row: which glass passes for which pane and how many sheets there are of each is given.
use Rattle.std.specs.Prelude.{ℕ, ◌+◌, ◌≤◌, ◌<◌, ◌≡◌, Bool, true, false, not, ◌||◌, ltb, eqb, if◌then◌else◌}
use Rattle.ranges.specs.Ranges.{sum_to}
use Rattle.ranges.specs.Internal.Counts.{count_to, all_to}

-- What is to be placed, and from what.
pub record Task : Type 0 where
  pub panes : ℕ
  pub glasses : ℕ
  -- whether a glass passes for a pane: `passes pane glass`
  pub passes : ℕ → ℕ → Bool
  -- how many sheets there are of a glass
  pub sheets : ℕ → ℕ

-- A way to give panes glasses says for each pane the number of its glass; `glasses`, or any number above, is none.

-- How many panes are given a glass.
abbrev pub given : Task → (ℕ → ℕ) → ℕ → ℕ
given t glass_of g = count_to (λ p. eqb (glass_of p) g) t.panes

-- How many panes are given one at all.
abbrev pub served : Task → (ℕ → ℕ) → ℕ
served t glass_of = count_to (λ p. ltb (glass_of p) t.glasses) t.panes

-- Only glasses that pass, and no more of each than there are sheets: demand 2.
pub record Matching (t : Task) (glass_of : ℕ → ℕ) : Type 0 where
  pub passing : (p : ℕ) → p < t.panes → glass_of p < t.glasses → t.passes p (glass_of p) ≡ true
  pub in_stock : (g : ℕ) → g < t.glasses → given t glass_of g ≤ t.sheets g

-- Whether every glass that passes for a pane is one of some.
abbrev pub confined : Task → (ℕ → Bool) → ℕ → Bool
confined t some p = all_to (λ g. not (t.passes p g) || some g) t.glasses

-- The sheets of some glasses, all together.
abbrev pub sheets_of : Task → (ℕ → Bool) → ℕ
sheets_of t some = sum_to (λ g. if some g then t.sheets g else 0) t.glasses

-- A matching that no other beats, and some glasses that show why: the panes that can have none but these outnumber their
-- sheets by the panes that are left over. Where no pane is, there are no such glasses.
pub record Greatest (t : Task) (glass_of : ℕ → ℕ) (tight : ℕ → Bool) : Type 0 where
  pub matching : Matching t glass_of
  pub or_none : (p : ℕ) → p < t.panes → glass_of p ≤ t.glasses
  -- where a pane has none, all sheets that it could have are given
  pub none_to_spare :
      (p : ℕ) → p < t.panes → glass_of p ≡ t.glasses →
      (g : ℕ) → g < t.glasses → t.passes p g ≡ true → given t glass_of g ≡ t.sheets g
  pub greatest : (other : ℕ → ℕ) → Matching t other → served t other ≤ served t glass_of
  pub shortage : count_to (confined t tight) t.panes + served t glass_of ≡ sheets_of t tight + t.panes
  pub none_tight : served t glass_of ≡ t.panes → (g : ℕ) → tight g ≡ false
