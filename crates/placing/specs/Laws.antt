-- What follows from the promise of `place` for a file that keeps the rules, as every accepted file does (`job_file/specs/Rules`): how many
-- sheets are missing where panes are left over.
use Rattle.std.specs.Prelude.{ℕ, List}
use Rattle.job_glass.specs.declared.Glass.{Glass}
use Rattle.job_pane.specs.declared.Pane.{Pane}
use Rattle.job_file.specs.Rules.{Rules}
use Rattle.row_placing.specs.Glazing.{Glazing}
use Rattle.row_placing.specs.MissingSheets.{MissingSheets}
use Rattle.placing.specs.FileSchedule.{file_schedule}

abbrev pub FileMissingSheets : List Glass → List Pane → Type 0
FileMissingSheets glasses panes =
    Rules glasses panes → (ids group : List ℕ) (placed : ℕ) → Glazing (file_schedule glasses panes) ids group placed →
    MissingSheets (file_schedule glasses panes) ids placed
