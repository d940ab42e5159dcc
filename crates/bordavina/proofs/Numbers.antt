-- The number of a result is 0 exactly where nothing is refused, since no cause has number 0.
--     number_tells    of the three calls
use Prim.Native.Nat.{ℕ}
use mathlib.Core.Path.{◌≡◌, refl}
use mathlib.Core.Logic.{◌↔◌}
use mathlib.Core.Bool.{Bool, true, false}
use native.Mathlib.Omega.{arith}
use lib.ListN.{length}
use Rattle.std.specs.Prelude.{Option, Some, None, find, nat_eq}
use Rattle.causes.specs.Cause.{number_of}
use Rattle.causes.specs.declared.Cause.{Cause}
use Rattle.causes.specs.declared.Cause.TheVariants.{ListTooShort, NoPane, NoGlass}
use Rattle.causes.proofs.Numbers.{numbered}
use Rattle.job_glass.specs.declared.Glass.{Glass}
use Rattle.job_pane.specs.declared.Pane.{Pane}
use Rattle.job_file.specs.File.{Outcome, accepted, refused}
use Rattle.job_file.specs.Entries.{stocks_of}
use Rattle.job_file.specs.CheckAnswer.{check_answer}
use Rattle.clauses.specs.VerdictAnswer.{verdict_answer}
use Rattle.clauses.specs.Internal.Found.{found_answer}
use Rattle.clauses.proofs.Answers.{answer_found}
use Rattle.row_placing.specs.Schedule.{Schedule}
use Rattle.placing.specs.FileSchedule.{schedule_of}
use Rattle.placing.specs.Promise.{Call, RefusedCall, is_too_short, PromisedOf, Promised}
use Rattle.bordavina.specs.Results.{check_result, verdict_result, place_result, NotRefused, NumberTells}

-- A cause's number is not 0, and a claim that it is holds of nothing.
refuses_tells : (cause : Cause) → number_of cause ≡ 0 ↔ ⊥
refuses_tells cause = (λ zero. omega (arith, (numbered cause).not_zero, zero), λ none. absurd none)

check_tells : (o : Outcome) → (check_result (check_answer o)).number ≡ 0 ↔ NotRefused (check_answer o)
check_tells (accepted glasses panes) = (λ zero. tt, λ is. refl)
check_tells (refused cause offset) = refuses_tells cause

found_tells :
    (pane : Option Pane) (glass : Option Glass) →
    (verdict_result (found_answer pane glass)).number ≡ 0 ↔ NotRefused (found_answer pane glass)
found_tells None glass = refuses_tells NoPane
found_tells (Some p) None = refuses_tells NoGlass
found_tells (Some p) (Some g) = (λ zero. tt, λ is. refl)

verdict_tells :
    (o : Outcome) (pane glass : ℕ) →
    (verdict_result (verdict_answer o pane glass)).number ≡ 0 ↔ NotRefused (verdict_answer o pane glass)
unfolding verdict_answer
verdict_tells (refused cause offset) pane glass = refuses_tells cause
verdict_tells (accepted glasses panes) pane glass =
    rw (← answer_found glasses panes pane glass)
    (found_tells (find (λ p. nat_eq p.id pane) panes) (find (λ g. nat_eq g.id glass) glasses))

result_refused :
    (c : Call) (cause : Cause) (offset : ℕ) → RefusedCall cause offset c →
    (place_result c.result).number ≡ 0 ↔ NotRefused c.result
result_refused c cause offset r = rw r.result_is (refuses_tells cause)

due_tells :
    (s : Schedule) (c : Call) (b : Bool) → PromisedOf s c b →
    (place_result c.result).number ≡ 0 ↔ NotRefused c.result
due_tells s c true r = result_refused c ListTooShort 0 r
due_tells s c false k = rw k.result_is (λ zero. tt, λ is. refl)

place_tells :
    (o : Outcome) (c : Call) → Promised o c → (place_result c.result).number ≡ 0 ↔ NotRefused c.result
unfolding Promised
place_tells (refused cause offset) c p = result_refused c cause offset p
place_tells (accepted glasses panes) c p =
    due_tells (schedule_of glasses (stocks_of glasses) panes) c (is_too_short c (length panes)) p

pub number_tells : (o : Outcome) → NumberTells o
number_tells o = record { check = check_tells o; verdict = verdict_tells o; place = place_tells o }
