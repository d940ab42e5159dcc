-- What calls leave that the bench examples don't show.
--     glazing_none    what every placing of two panes without a glass is
--     calls           as specs/Calls.antt states it
use Prim.Native.Nat.{ℕ}
use mathlib.Core.Path.{◌≡◌, refl, ap, subst, ◌∙◌}
use mathlib.Core.Bool.{true, or-true}
use mathlib.Core.List.{List, [], ◌∷◌, ◌++◌}
use native.Mathlib.Omega.{arith}
use lib.Dec.{ltb}
use lib.ListN.{length, take, drop}
use Rattle.causes.specs.declared.Cause.{Cause}
use Rattle.causes.specs.declared.Cause.TheVariants.{FileLength, ListTooShort}
use Rattle.causes.specs.Cause.{number_of}
use Rattle.job_line.specs.Bytes.{bytes_of}
use Rattle.job_line.specs.WrittenNumber.{written_digits, digit_count, written_number, written_numbers}
use Rattle.job_file.specs.File.{Outcome, accepted, refused, outcome_of}
use Rattle.row_placing.specs.Placing.{nonzero}
use Rattle.row_placing.specs.Glazing.{Glazing}
use Rattle.placing.specs.Promise.{Call, RefusedCall, PlacedCall, is_too_short, Promised}
use Rattle.placing.proofs.Laws.{counted_of}
use Rattle.report.specs.Text.{pane_lines, placing_text}
use Rattle.report.specs.Reported.{TextOfPlacing, Reported}
use Rattle.bench_examples.specs.Files.{job_j}
use Rattle.bench_examples.specs.Calls.{job_empty_rack, LeftAlone, EmptyRack, KeptOfJ, ReportedJ, Calls}
use Rattle.bench_examples.proofs.Files.{glasses_j, panes_j, panes_empty, panes_read, thirteen_bytes, job_read}
use Rattle.bench_examples.proofs.JobJ.{schedule_j}
use Rattle.bench_examples.proofs.EmptyRack.{schedule_empty, only_zeros, none_placed, only_group}
use Rattle.bench_examples.proofs.Examples.{result_is, glazing_j}
use Rattle.bench_examples.proofs.Texts.{text_j}

-- A refused call, by what its file says.
left_alone : (cause : Cause) (c : Call) → RefusedCall cause 0 c → LeftAlone (number_of cause) c
left_alone cause c r = record { refused = r.result_is; answers_kept = r.answers_kept; group_kept = r.group_kept }

refused_i : (o : Outcome) (c : Call) → o ≡ refused FileLength 0 → Promised o c → LeftAlone 1 c
unfolding Promised
refused_i o c is p = left_alone FileLength c (rw is at p)

short_list :
    (o : Outcome) (c : Call) → o ≡ accepted glasses_j panes_j → is_too_short c (length panes_j) ≡ true → Promised o c → LeftAlone 9 c
unfolding Promised
short_list o c is short p = left_alone ListTooShort c (rw (is, Promised, short) at p)

-- What was written to the front of a list, and what was kept.
front_is : (ids first after : List ℕ) → ids ≡ first → take (length ids) after ≡ ids → take (length first) after ≡ first
front_is ids first after is = subst (λ (xs : List ℕ). take (length xs) after ≡ xs) is

later_is :
    (ids first before after : List ℕ) → ids ≡ first → drop (length ids) after ≡ drop (length ids) before →
    drop (length first) after ≡ drop (length first) before
later_is ids first before after is = subst (λ (xs : List ℕ). drop (length xs) after ≡ drop (length xs) before) is

kept_of_j : (c : Call) → PlacedCall schedule_j c → KeptOfJ c
kept_of_j c k =
    let g = k.glazed in
    let is = glazing_j g.ids g.group_ids k.counts.placed g.glazing in
    record {
      later_answers = later_is _ _ _ _ is.1 g.answers_written.later_kept;
      group_kept = later_is _ _ _ _ is.2 g.group_written.later_kept;
    }

reported_j : (before after : List ℕ) (count : ℕ) → Reported (outcome_of job_j) before after count → ReportedJ before after count
reported_j before after count r =
    let is = text_j r.text (rw job_read at r.of_file) in
    record {
      counted = r.count_is ∙ ap length is;
      front = front_is _ _ _ is r.written.front;
      later_kept = later_is _ _ _ _ is r.written.later_kept;
    }

glazing_none :
    (ids group : List ℕ) (placed : ℕ) → Glazing schedule_empty ids group placed → (placed ≡ 0) × (ids ≡ 0 ∷ 0 ∷ []) × (group ≡ 1 ∷ 2 ∷ [])
glazing_none ids group placed g =
    let is = only_zeros ids g.placing in
    let none : placed ≡ 0 = g.placed_is ∙ ap nonzero is ∙ none_placed in
    (none, is, only_group group (g.if_less (λ all. omega (arith, none, all))) (g.whole_shortage ∙ rw none) g.rises)

empty_rack : (c : Call) → PlacedCall schedule_empty c → EmptyRack c
empty_rack c k =
    let g = k.glazed in
    let is = glazing_none g.ids g.group_ids k.counts.placed g.glazing in
    record {
      counted = result_is schedule_empty c k 2 0 (1 ∷ 2 ∷ []) refl is.0 is.2;
      answers = front_is _ _ _ is.1 g.answers_written.front;
      later_answers = later_is _ _ _ _ is.1 g.answers_written.later_kept;
      group = front_is _ _ _ is.2 g.group_written.front;
      later_ids = later_is _ _ _ _ is.2 g.group_written.later_kept;
    }

text_none :
    (text : List ℕ) → TextOfPlacing [] panes_empty text →
    text ≡ bytes_of "2 0\n" ++ bytes_of "1 0\n" ++ bytes_of "0 2\n" ++ bytes_of "short 1 2\n"
unfolding placing_text pane_lines written_number written_numbers written_digits digit_count
text_none text t = let is = glazing_none t.answers t.group t.placed t.glazing in t.is_text ∙ rw (is.0, is.1, is.2)

pub calls : Calls
calls = record {
  i = λ file l c p. refused_i (outcome_of file) c (thirteen_bytes file l) p;
  short_answers = λ c l p. short_list (outcome_of job_j) c job_read (rw l) p;
  short_group = λ c l p. short_list (outcome_of job_j) c job_read (rw l (or-true (ltb (length c.answer_list.before) 2))) p;
  j = λ c l k p. kept_of_j c (counted_of (outcome_of job_j) glasses_j panes_j c job_read l k p);
  j_reported = reported_j;
  empty_rack = λ c l k p. empty_rack c (counted_of (outcome_of job_empty_rack) [] panes_empty c panes_read l k p);
  empty_rack_text = λ text t. text_none text (rw panes_read at t);
}
