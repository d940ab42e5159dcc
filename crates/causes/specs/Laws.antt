-- Laws of the numbers and of answers: number 7 does not occur (document 02, 2026-01), and an answer tells why.
use Rattle.std.specs.Prelude.{◌≡◌, Result}
use Rattle.causes.specs.Answer.{answer_of}
use Rattle.causes.specs.Cause.{number_of}
use Rattle.causes.specs.declared.Cause.{Cause}
use Rattle.causes.specs.declared.Refusal.{Refusal}

-- No cause has the number, so no call is refused with it.
abbrev pub NoNumber7 : Type 0
NoNumber7 = (cause : Cause) → number_of cause ≡ 7 → ⊥

-- Results of which a call answers the same are the same: of a refusal, the answer has the cause and the offset.
abbrev pub AnswersTell : (A : Type 0) → Type 0
AnswersTell A = (r s : Result A Refusal) → answer_of r ≡ answer_of s → r ≡ s
