-- An accepted file, and the file that is written for its job with `P` lines alone. Of both `check` and `verdict`
-- answer the same, and the same is promised of `place` and `report`, which leave a choice.
use Rattle.std.specs.Prelude.{ℕ, ◌≤◌, ◌≡◌, ◌↔◌, List, map, length}
use Rattle.job_glass.specs.declared.Glass.{Glass}
use Rattle.job_pane.specs.declared.Pane.{Pane}
use Rattle.job_line.specs.Bytes.{letter_p}
use Rattle.job_file.specs.File.{Outcome, accepted, outcome_of}
use Rattle.job_file.specs.CheckAnswer.{check_answer}
use Rattle.job_grammar.specs.Written.{wind_letter, written_file}
use Rattle.uniform_load.specs.AsPressures.{as_pressures}
use Rattle.clauses.specs.VerdictAnswer.{verdict_answer}
use Rattle.placing.specs.Promise.{Call, Promised}
use Rattle.report.specs.Reported.{TextOf}

-- What the calls answer or promise of two files, by what each file says.
pub record SameAnswers (stated pressures : Outcome) : Type 0 where
  pub check : check_answer pressures ≡ check_answer stated
  pub verdict : (pane glass : ℕ) → verdict_answer pressures pane glass ≡ verdict_answer stated pane glass
  pub place : (c : Call) → Promised pressures c ↔ Promised stated c
  pub report : (text : List ℕ) → TextOf pressures text ↔ TextOf stated text

-- The file with these notes, in which each pane has a line with the pressures of its wind. All these are `P` lines.
abbrev pub pressure_file : (notes : List ℕ) → List Glass → List Pane → List ℕ
pressure_file notes glasses panes = written_file notes glasses (map as_pressures panes)

-- Each line of a pane in it begins with `P`.
abbrev pub PLines : Type 0
PLines = (p : Pane) → wind_letter (as_pressures p).wind ≡ letter_p

-- The two files answer alike, where the notes leave room for the second.
abbrev pub AnswersAlike : Type 0
AnswersAlike =
    (file notes : List ℕ) (glasses : List Glass) (panes : List Pane) →
    outcome_of file ≡ accepted glasses panes →
    length (pressure_file notes glasses panes) ≤ 65535 →
    SameAnswers (outcome_of file) (outcome_of (pressure_file notes glasses panes))
