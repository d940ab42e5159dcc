-- The panes that hold a glass, as `free` goes through them.
use Rattle.std.specs.Prelude.{ℕ, ◌≤◌, ◌<◌, ◌≡◌, List, Option, Some, None, length, get_or}

-- From one number up to another no pane holds a glass.
pub record NoneBefore (held : List (Option ℕ)) (glass from to : ℕ) : Type 0 where
  pub from_on : from ≤ to
  pub within : to ≤ length held
  pub none : (p : ℕ) → from ≤ p → p < to → get_or held p None ≡ Some glass → ⊥

-- What `next_holder` gives: the first pane from a number on that holds a glass, if one does.
pub record Holder (held : List (Option ℕ)) (glass from pane : ℕ) : Type 0 where
  pub within : pane < length held
  pub holds : get_or held pane None ≡ Some glass
  pub first : NoneBefore held glass from pane

abbrev pub NextHolder : (held : List (Option ℕ)) (glass from : ℕ) → Option ℕ → Type 0
NextHolder held glass from (Some pane) = Holder held glass from pane
NextHolder held glass from None = NoneBefore held glass from (length held)
