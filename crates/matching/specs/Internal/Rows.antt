-- Rows of bits and lists of sheets, as what is to be matched: document 01, "The placing".
use Rattle.std.specs.Prelude.{ℕ, ◌+◌, ◌<◌, List, Option, Some, None, ltb, length, get_or, if◌then◌else◌}
use Rattle.glass_set.specs.Internal.Member.{has}
use Rattle.matching.specs.Internal.Matching.{Task}

-- The task that a list of rows and a list of sheets state.
abbrev pub task_of : List ℕ → List ℕ → Task
task_of rows sheets = record {
  panes = length rows;
  glasses = 64;
  passes = λ p g. has (get_or rows p 0) g;
  sheets = λ g. get_or sheets g 0;
}

-- The number of the glass that a pane holds, or 64, which is that of none. A number that no glass has gives the one above it, so entries that
-- differ have numbers that differ; and `or_none` of `Greatest` rules it out: where a greatest matching gives a pane no glass, its entry is
-- `None`.
abbrev pub number_held : Option ℕ → ℕ
number_held None = 64
number_held (Some glass) = if ltb glass 64 then glass else glass + 1

-- The way that a list of held glasses states, one for each pane.
abbrev pub way_of : List (Option ℕ) → ℕ → ℕ
way_of held p = number_held (get_or held p None)

-- What each entry of a greatest matching is: none, or the number of a glass.
abbrev pub GlassOrNone : Option ℕ → Type 0
GlassOrNone None = Unit {0}
GlassOrNone (Some glass) = glass < 64

abbrev pub GlassesOrNone : (rows : List ℕ) → List (Option ℕ) → Type 0
GlassesOrNone rows held = (p : ℕ) → p < length rows → GlassOrNone (get_or held p None)
