-- What the call `report` promises: the text of a file's refusal, or of a placing that keeps the promise of `place`.
use Rattle.std.specs.Prelude.{ℕ, ◌≤◌, ◌≡◌, List, length}
use Rattle.basics.specs.Lent.{lent, Wrote}
use Rattle.causes.specs.Cause.{number_of}
use Rattle.job_glass.specs.declared.Glass.{Glass}
use Rattle.job_pane.specs.declared.Pane.{Pane}
use Rattle.job_file.specs.File.{Outcome, accepted, refused}
use Rattle.job_file.specs.Entries.{pane_ids_of}
use Rattle.row_placing.specs.Glazing.{Glazing}
use Rattle.placing.specs.FileSchedule.{file_schedule}
use Rattle.report.specs.Text.{placing_text, refusal_text}

-- The text of answers, counts and a group that are a placing of a file from its stocks, as `place` promises it.
pub record TextOfPlacing (glasses : List Glass) (panes : List Pane) (text : List ℕ) : Type 0 where
  pub answers : List ℕ
  pub group : List ℕ
  pub placed : ℕ
  pub glazing : Glazing (file_schedule glasses panes) answers group placed
  pub is_text : text ≡ placing_text (pane_ids_of panes) answers (length panes) placed group

-- A text is one that `canopy` may print of a file.
abbrev pub TextOf : Outcome → List ℕ → Type 0
TextOf (refused cause offset) text = text ≡ refusal_text (number_of cause) offset
TextOf (accepted glasses panes) text = TextOfPlacing glasses panes text

-- What the call leaves in a lent buffer: a text of the file at its front, as many bytes as the call answers. There is room for
-- the whole text.
pub record Reported (outcome : Outcome) (before after : List ℕ) (count : ℕ) : Type 0 where
  pub text : List ℕ
  pub of_file : TextOf outcome text
  pub count_is : count ≡ length text
  pub fits : count ≤ length before
  pub written : Wrote text (lent before after)
