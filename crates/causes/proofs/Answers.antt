-- An answer tells the result: two causes have two numbers.
--     answers_tell    as specs/Laws.antt states it
use native.Mathlib.Omega.{arith}
use mathlib.Core.Path.{◌≡◌, ap₂}
use Rattle.std.specs.Prelude.{Ok, Err}
use Rattle.causes.specs.Cause.{number_of}
use Rattle.causes.specs.Laws.{AnswersTell}
use Rattle.causes.specs.declared.Cause.{Cause}

differ : (a b : Cause) → number_of a ≡ number_of b → a ≡ b
differ a b e = grind arith

pub answers_tell : {A : Type 0} → AnswersTell A
answers_tell (Ok x) (Ok y) e = cc
answers_tell (Ok x) (Err s) e = cc
answers_tell (Err r) (Ok y) e = cc
answers_tell (Err r) (Err s) e =
    let n : number_of r.cause ≡ number_of s.cause = cc in
    let o : r.offset ≡ s.offset = cc in
    let c : r.cause ≡ s.cause = differ r.cause s.cause n in
    ap₂ (λ cause offset. Err (record { cause = cause; offset = offset })) c o
