-- What `write_answers` leaves, and what the group list is to get: document 01, "The placing".
use Rattle.std.specs.Prelude.{ℕ, ◌≡◌, Option, Bool, List, [], eqb, length, get_or, if◌then◌else◌}
use Rattle.rising_ids.specs.Internal.Listing.{list_to, rising}
use Rattle.glass_set.specs.Internal.Member.{is_within}
use Rattle.row_placing.specs.Internal.Entries.{entries_held}
use Rattle.row_placing.specs.Placing.{nonzero}
use Rattle.basics.specs.Lent.{Lent}
use Rattle.basics.specs.Internal.Arrays.{written}

-- What `write_answers` leaves: the ids of the glasses held in the first entries, and how many are not 0.
pub record Answered (ids : List ℕ) (held : List (Option ℕ)) (answers : Lent) (placed : ℕ) : Type 0 where
  pub answers_are : answers.after ≡ written (entries_held ids held) answers.before
  pub placed_is : placed ≡ nonzero (entries_held ids held)

-- Whether a pane can have no glass but tight ones, by its row; and the ids of those panes, in the order of the rows.
abbrev pub confined_to : List ℕ → ℕ → ℕ → Bool
confined_to rows tight p = is_within (get_or rows p 0) tight

abbrev pub confined_ids : List ℕ → List ℕ → ℕ → List ℕ
confined_ids ids rows tight = list_to (λ p. get_or ids p 0) (confined_to rows tight) (length rows)

-- What the group list is to get where so many panes are placed: nothing if that is all of them, and else those ids from the lowest
-- up, each once and without those above 9999, which no file has.
abbrev pub group_due : ℕ → List ℕ → List ℕ → ℕ → List ℕ
group_due placed ids rows tight = if eqb placed (length rows) then [] else rising (confined_ids ids rows tight)
