-- Results as structs of numbers, by the definitions that the promises of the calls use. What a case does not use is 0. The number of
-- a refusal is never 0, so number 0 says that a call is not refused: `NumberTells`.
use Rattle.std.specs.Prelude.{ℕ, ◌≤◌, ◌≡◌, ◌↔◌, List, length, take}
use Rattle.causes.specs.Answer.{Answer, gives, refuses}
use Rattle.job_glass.specs.declared.Glass.{Glass}
use Rattle.job_pane.specs.declared.Pane.{Pane}
use Rattle.job_file.specs.File.{Outcome, accepted}
use Rattle.job_file.specs.CheckAnswer.{check_answer}
use Rattle.job_file.specs.declared.FileCounts.{FileCounts}
use Rattle.clauses.specs.declared.judging.Verdict.{Verdict}
use Rattle.clauses.specs.declared.judging.Verdict.TheVariants.{Passes, Fails}
use Rattle.clauses.specs.VerdictAnswer.{verdict_answer}
use Rattle.row_placing.specs.declared.PlaceCounts.{PlaceCounts}
use Rattle.row_placing.specs.Schedule.{Schedule}
use Rattle.row_placing.specs.Placing.{nonzero, Placing}
use Rattle.row_placing.specs.ShortGroup.{ShortGroup}
use Rattle.placing.specs.FileSchedule.{file_schedule}
use Rattle.placing.specs.Promise.{Call, call, Promised}
use Rattle.bordavina.specs.declared.results.CheckResult.{CheckResult}
use Rattle.bordavina.specs.declared.results.VerdictResult.{VerdictResult}
use Rattle.bordavina.specs.declared.results.PlaceResult.{PlaceResult}

-- Of a check.
abbrev pub check_result : Answer FileCounts → CheckResult
check_result (gives counts) = record { number = 0; offset = 0; glasses = counts.glasses; panes = counts.panes }
check_result (refuses number offset) = record { number = number; offset = offset; glasses = 0; panes = 0 }

-- The clause that fails, or 0.
abbrev pub clause_of : Verdict → ℕ
clause_of Passes = 0
clause_of (Fails clause) = clause

-- Of a verdict.
abbrev pub verdict_result : Answer Verdict → VerdictResult
verdict_result (gives verdict) = record { number = 0; offset = 0; clause = clause_of verdict }
verdict_result (refuses number offset) = record { number = number; offset = offset; clause = 0 }

-- Of a placing.
abbrev pub place_result : Answer PlaceCounts → PlaceResult
place_result (gives counts) = record {
  number = 0;
  offset = 0;
  wanted = counts.wanted;
  placed = counts.placed;
  group = counts.group;
}
place_result (refuses number offset) = record { number = number; offset = offset; wanted = 0; placed = 0; group = 0 }

-- A placing that keeps the promise of `place`, with its result as a struct.
pub record PlacedAs (outcome : Outcome) (r : PlaceResult) (answers answers_after group group_after : List ℕ) : Type 0 where
  pub answer : Answer PlaceCounts
  pub result_is : r ≡ place_result answer
  pub promised : Promised outcome (call answer answers answers_after group group_after)

-- The answer is not a refusal.
abbrev pub NotRefused : {A : Type 0} → Answer A → Type 0
NotRefused (gives x) = Unit
NotRefused (refuses number offset) = ⊥

-- The number is 0 exactly where nothing is refused, of every file, any two ids and every call of `place`.
pub record NumberTells (o : Outcome) : Type 0 where
  pub check : (check_result (check_answer o)).number ≡ 0 ↔ NotRefused (check_answer o)
  pub verdict :
      (pane_id glass_id : ℕ) →
      (verdict_result (verdict_answer o pane_id glass_id)).number ≡ 0 ↔ NotRefused (verdict_answer o pane_id glass_id)
  pub place : (c : Call) → Promised o c → (place_result c.result).number ≡ 0 ↔ NotRefused c.result

-- What a struct and the two lists of a placing tell: the first `wanted` entries of the answers are a placing, of which `placed` are not 0,
-- and the first `group` entries of the other list are a short group, or none where all are placed.
pub record PlacedTells (s : Schedule) (r : PlaceResult) (answers group : List ℕ) : Type 0 where
  pub wanted : r.wanted ≡ length s.pane_ids
  pub placed : r.placed ≡ nonzero (take r.wanted answers)
  pub placing : Placing s (take r.wanted answers)
  pub if_equal : r.placed ≡ r.wanted → r.group ≡ 0
  pub if_less : (r.placed ≡ r.wanted → ⊥) → ShortGroup s (take r.group group)

-- They tell it of every accepted file, where neither list is too short.
abbrev pub PlacedTold : Type 0
PlacedTold =
    (o : Outcome) (glasses : List Glass) (panes : List Pane) (r : PlaceResult) (answers answers_after group group_after : List ℕ) →
    o ≡ accepted glasses panes → length panes ≤ length answers → length panes ≤ length group →
    PlacedAs o r answers answers_after group group_after →
    PlacedTells (file_schedule glasses panes) r answers_after group_after
