-- What the call `place` promises: documents 01 and 02, "The placing" and "What each cause gives", and the owner's three demands. Of every
-- file and every two lists it is refused, with the number and the offset of the first cause and both lists as they were, or it has placed the
-- panes of the file; and it is refused only where there is a cause.
use Rattle.std.specs.Prelude.{ℕ, ◌≡◌, Bool, true, false, ◌||◌, List, ltb, length}
use Rattle.causes.specs.Answer.{Answer, gives, refusal}
use Rattle.causes.specs.declared.Cause.{Cause}
use Rattle.causes.specs.declared.Cause.TheVariants.{ListTooShort}
use Rattle.job_file.specs.File.{Outcome, accepted, refused}
use Rattle.row_placing.specs.Schedule.{Schedule}
use Rattle.basics.specs.Lent.{Lent, lent}
use Rattle.row_placing.specs.Glazed.{Glazed}
use Rattle.row_placing.specs.declared.PlaceCounts.{PlaceCounts}
use Rattle.placing.specs.FileSchedule.{file_schedule}

-- A call: its result, and the two lent lists before it and after it.
pub record Call : Type 0 where
  pub result : Answer PlaceCounts
  pub answer_list : Lent
  pub group_list : Lent

abbrev pub call : Answer PlaceCounts → (answers answers_after group group_after : List ℕ) → Call
call result answers answers_after group group_after = record {
  result = result;
  answer_list = lent answers answers_after;
  group_list = lent group group_after;
}

-- A call that is refused: both lists are as they were.
pub record RefusedCall (cause : Cause) (offset : ℕ) (c : Call) : Type 0 where
  pub result_is : c.result ≡ refusal cause offset
  pub answers_kept : c.answer_list.after ≡ c.answer_list.before
  pub group_kept : c.group_list.after ≡ c.group_list.before

-- A call that is not: its result has the counts of a placing of the schedule, which it wrote to the lists.
pub record PlacedCall (s : Schedule) (c : Call) : Type 0 where
  pub counts : PlaceCounts
  pub result_is : c.result ≡ gives counts
  pub glazed : Glazed s counts c.answer_list c.group_list

-- Whether either list has fewer entries than there are panes.
abbrev pub is_too_short : Call → (pane_count : ℕ) → Bool
is_too_short c pane_count = ltb (length c.answer_list.before) pane_count || ltb (length c.group_list.before) pane_count

-- What is promised of an accepted file, by whether a list is too short.
abbrev pub PromisedOf : Schedule → Call → (too_short : Bool) → Type 0
PromisedOf s c true = RefusedCall ListTooShort 0 c
PromisedOf s c false = PlacedCall s c

-- The promise: the file's own refusal; then that of a list that is too short; else the placing of the file's panes from its stocks.
unfoldable pub Promised : Outcome → Call → Type 0
Promised (refused cause offset) c = RefusedCall cause offset c
Promised (accepted glasses panes) c = PromisedOf (file_schedule glasses panes) c (is_too_short c (length panes))
