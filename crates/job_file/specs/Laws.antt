-- Number 7 does not occur: document 02, 2026-01.
use Rattle.std.specs.Prelude.{ℕ, ◌≡◌, List}
use Rattle.causes.specs.Answer.{refuses}
use Rattle.job_file.specs.File.{outcome_of}
use Rattle.job_file.specs.CheckAnswer.{check_answer}

-- No file is refused with the number, at any offset.
abbrev pub NotRefusedWith7 : Type 0
NotRefusedWith7 = (file : List ℕ) (offset : ℕ) → check_answer (outcome_of file) ≡ refuses 7 offset → ⊥
