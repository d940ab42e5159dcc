-- What the call `check` answers: document 01, last sentence of "Glazing covered", and "What each cause gives"; demand 1. Of every file it
-- is how many glasses and panes it has, or the first cause against it.
use Rattle.std.specs.Prelude.{ℕ, length}
use Rattle.causes.specs.Answer.{Answer, gives, refusal}
use Rattle.job_file.specs.File.{Outcome, accepted, refused}
use Rattle.job_file.specs.declared.FileCounts.{FileCounts}

abbrev pub file_counts : (glasses panes : ℕ) → FileCounts
file_counts glasses panes = record { glasses = glasses; panes = panes }

-- The answer that a file should have.
abbrev pub check_answer : Outcome → Answer FileCounts
check_answer (accepted glasses panes) = gives (file_counts (length glasses) (length panes))
check_answer (refused cause offset) = refusal cause offset
