-- What is to be placed: document 01, "The placing". A schedule has the ids of its glasses and panes, each in order, the sheets of
-- each glass, and which glass passes for which pane. Places are counted from 0. In an accepted file the ids of glasses differ, those of
-- panes too, and none is 0: `job_file/specs/Rules`.
use Rattle.std.specs.Prelude.{ℕ, Bool, List}

pub record Schedule : Type 0 where
  pub glass_ids : List ℕ
  pub sheets : List ℕ
  pub pane_ids : List ℕ
  -- `passes p g`: the glass at place g passes for the pane at place p
  pub passes : ℕ → ℕ → Bool
