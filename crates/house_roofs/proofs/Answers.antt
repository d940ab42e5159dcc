-- The calls answer or promise the same of a job as its lines state it and as pressures: both have the same ids, counts and schedule, and
-- the same verdict of each pane and glass.
--     p_lines, answers_alike    as specs/SameAnswers.antt states them
use Prim.Native.Nat.{ℕ}
use mathlib.Core.Path.{◌≡◌, refl, sym, ap, subst, ◌∙◌}
use mathlib.Core.List.{List, map}
use lib.ListN.{length, length-map}
use Rattle.std.specs.Prelude.{Option, Some, None}
use Rattle.causes.specs.Answer.{Answer, gives, refusal}
use Rattle.causes.specs.declared.Cause.TheVariants.{NoPane, NoGlass}
use Rattle.ids.specs.Lookup.{place_of}
use Rattle.job_glass.specs.declared.Glass.{Glass}
use Rattle.job_pane.specs.declared.Pane.{Pane}
use Rattle.job_file.specs.File.{accepted}
use Rattle.job_file.specs.Entries.{glass_at, pane_at, glass_ids_of, pane_ids_of, stocks_of}
use Rattle.job_grammar.proofs.Grammar.{complete, sound}
use Rattle.uniform_load.specs.AsPressures.{as_pressures}
use Rattle.clauses.specs.VerdictAnswer.{verdict_answer}
use Rattle.clauses.specs.Verdict.{verdict_of}
use Rattle.clauses.specs.declared.judging.Verdict.{Verdict}
use Rattle.row_placing.specs.Glazing.{Glazing}
use Rattle.placing.specs.FileSchedule.{schedule_of}
use Rattle.placing.specs.Promise.{Call, Promised}
use Rattle.report.specs.Reported.{TextOfPlacing}
use Rattle.house_roofs.specs.SameAnswers.{SameAnswers, PLines, AnswersAlike}
use Rattle.house_roofs.proofs.Roofs.{ids_same, verdict_same, schedule_same, same_roof}

module _ (glasses : List Glass) (panes : List Pane) where
  abbrev pressures : List Pane
  pressures = map as_pressures panes

  -- The answer by the places of the two ids.
  abbrev answer_at : List Pane → (p g : Option ℕ) → Answer Verdict
  answer_at ps p g =
      elim p [
        | None ↦ refusal NoPane 0
        | Some p ↦
            elim g [
              | None ↦ refusal NoGlass 0
              | Some g ↦ gives (verdict_of (pane_at ps p) (glass_at glasses g))
            ]
      ]

  same_at : (p g : Option ℕ) → answer_at pressures p g ≡ answer_at panes p g
  same_at None g = refl
  same_at (Some p) None = refl
  same_at (Some p) (Some g) = ap gives (verdict_same glasses panes p g)

  same_answer :
      (pane glass : ℕ) → verdict_answer (accepted glasses pressures) pane glass ≡ verdict_answer (accepted glasses panes) pane glass
  unfolding verdict_answer
  same_answer pane glass =
      rw (verdict_answer, ids_same panes) (same_at (place_of pane (pane_ids_of panes)) (place_of glass (glass_ids_of glasses)))

-- Two lists of panes, of which the same is to be placed.
module _ (glasses : List Glass) (panes others : List Pane)
    (schedule : schedule_of glasses (stocks_of glasses) panes ≡ schedule_of glasses (stocks_of glasses) others) where
  ids : pane_ids_of panes ≡ pane_ids_of others
  ids = ap (λ s. s.pane_ids) schedule

  count : length panes ≡ length others
  count = sym (length-map panes (λ p. p.id)) ∙ ap length ids ∙ length-map others (λ p. p.id)

  promise_kept : (c : Call) → Promised (accepted glasses panes) c → Promised (accepted glasses others) c
  unfolding Promised
  promise_kept c promised = rw (schedule, count) at promised

  text_kept : (text : List ℕ) → TextOfPlacing glasses panes text → TextOfPlacing glasses others text
  text_kept text t = record {
    answers = t.answers;
    group = t.group;
    placed = t.placed;
    glazing = subst (λ s. Glazing s t.answers t.group t.placed) schedule t.glazing;
    is_text = t.is_text ∙ rw (ids, count);
  }

same_answers : (glasses : List Glass) (panes : List Pane) → SameAnswers (accepted glasses panes) (accepted glasses (map as_pressures panes))
same_answers glasses panes =
    let pressures = map as_pressures panes in
    let same = schedule_same glasses panes (stocks_of glasses) in
    record {
      check = rw (length-map panes as_pressures);
      verdict = same_answer glasses panes;
      place = λ c. (promise_kept glasses pressures panes same c, promise_kept glasses panes pressures (sym same) c);
      report = λ text. (text_kept glasses pressures panes same text, text_kept glasses panes pressures (sym same) text);
    }

pub p_lines : PLines
p_lines p = refl

pub answers_alike : AnswersAlike
answers_alike file notes glasses panes is fits =
    let rules = (sound file glasses panes is).1.rules in
    rw (is, complete notes glasses (map as_pressures panes) ((same_roof glasses panes).rules_kept rules) fits)
    (same_answers glasses panes)
