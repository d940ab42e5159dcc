-- Documents 01 and 02, "What each cause gives": what `check`, `verdict` and `place` answer.
use Rattle.std.specs.Prelude.{ℕ, Result, Ok, Err}
use Rattle.causes.specs.Cause.{number_of}
use Rattle.causes.specs.declared.Cause.{Cause}
use Rattle.causes.specs.declared.Refusal.{Refusal}

-- A call gives an `A`, or it refuses with a cause's number and an offset. (A file's `Outcome` has a case of its own, `refused`, with the
-- cause itself.)
pub data Answer (A : Type 0) : Type 0 where
  gives : A → Answer A
  refuses : (number offset : ℕ) → Answer A

-- The answer of a call that is refused for a cause.
abbrev pub refusal : {A : Type 0} → Cause → ℕ → Answer A
refusal cause offset = refuses (number_of cause) offset

-- What the result of the code's call says: its value, or its refusal's number and offset.
abbrev pub answer_of : {A : Type 0} → Result A Refusal → Answer A
answer_of (Ok value) = gives value
answer_of (Err r) = refusal r.cause r.offset
