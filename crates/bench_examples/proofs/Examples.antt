-- The bench examples hold.
--     glazing_c, glazing_h, glazing_j    what every placing of the second file of (c), of (h) and of (j) is
--     examples                           (a) to (j)
use Prim.Native.Nat.{ℕ}
use mathlib.Core.Path.{◌≡◌, refl, sym, subst, ◌∙◌}
use mathlib.Core.List.{List, [], ◌∷◌}
use native.Mathlib.Omega.{arith}
use lib.ListN.{length, take}
use Rattle.job_file.specs.File.{outcome_of}
use Rattle.bench_examples.specs.Files.{job_h, job_j}
use Rattle.bench_examples.proofs.Files.{glasses_j, panes_j, three_times, ribbon, nothing_wanted, thirteen_bytes, job_read}
use Rattle.causes.specs.Answer.{gives}
use Rattle.span_table.specs.Spans.{spans}
use Rattle.point_load.specs.Support.{column_of}
use Rattle.row_placing.specs.Schedule.{Schedule}
use Rattle.row_placing.specs.Glazing.{Glazing}
use Rattle.placing.specs.FileSchedule.{schedule_of}
use Rattle.placing.specs.Promise.{Call, PlacedCall}
use Rattle.placing.proofs.Laws.{nonzero_le, counted_of}
use Rattle.bench_examples.specs.Examples.{counts, ExampleJ, Examples}
use Rattle.bench_examples.proofs.JobC as JobC
use Rattle.bench_examples.proofs.JobJ.{schedule_j, full_placing, no_other}

pub glazing_c :
    (ids group : List ℕ) (placed : ℕ) → Glazing JobC.schedule_c ids group placed → (placed ≡ 1) × (ids ≡ 10 ∷ [])
glazing_c ids group placed g =
    let all = g.all_placeable JobC.full_placing in
    (all, JobC.no_other ids g.placing (sym g.placed_is ∙ all))

pub glazing_h :
    (ids group : List ℕ) (placed : ℕ) → Glazing (schedule_of [] [] []) ids group placed → (placed ≡ 0) × (group ≡ [])
glazing_h ids group placed g =
    let all : placed ≡ 0 = omega (arith, g.placed_is, nonzero_le ids 0 g.placing.one_each) in
    (all, g.if_equal all)

-- The result of a call, by what its placing is.
pub result_is :
    (s : Schedule) (c : Call) (k : PlacedCall s c) (wanted placed : ℕ) (group : List ℕ) →
    length s.pane_ids ≡ wanted → k.counts.placed ≡ placed → k.glazed.group_ids ≡ group →
    c.result ≡ gives (counts wanted placed (length group))
result_is s c k wanted placed group w p g =
    k.result_is ∙ rw (k.glazed.wanted_is, k.glazed.group_is, w, p, g)

example_h : (c : Call) → PlacedCall (schedule_of [] [] []) c → c.result ≡ gives (counts 0 0 0)
example_h c k =
    let g = k.glazed in
    let is = glazing_h g.ids g.group_ids k.counts.placed g.glazing in
    result_is (schedule_of [] [] []) c k 0 0 [] refl is.0 is.1

pub glazing_j :
    (ids group : List ℕ) (placed : ℕ) → Glazing schedule_j ids group placed →
    (placed ≡ 2) × (ids ≡ 7 ∷ 9 ∷ []) × (group ≡ [])
glazing_j ids group placed g =
    let all = g.all_placeable full_placing in
    (all, no_other ids g.placing (sym g.placed_is ∙ all), g.if_equal all)

example_j : (c : Call) → PlacedCall schedule_j c → ExampleJ c
example_j c k =
    let g = k.glazed in
    let is = glazing_j g.ids g.group_ids k.counts.placed g.glazing in
    record {
      counted = result_is schedule_j c k 2 2 [] refl is.0 is.2;
      answers =
          subst (λ (ids : List ℕ). take (length ids) c.answer_list.after ≡ ids) is.1 g.answers_written.front;
    }

pub examples : Examples
unfolding spans column_of
examples = record {
  a = record { at_29 = refl; at_30 = refl; awning = refl };
  b = record { at_2999 = refl; at_3000 = refl };
  c = record {
    by_2000 = refl;
    by_2001 = refl;
    by_3000 = refl;
    by_3001 = refl;
    accepts_3000 = three_times;
    accepts_3001 = ribbon;
    with_8 = JobC.glass_8_fails;
    with_10 = JobC.glass_10_passes;
  };
  d = record { at_5 = refl; at_11 = refl };
  e = record { maximum = refl; minimum = refl };
  f = record { maximum = refl; minimum = refl };
  g_two = record { span = refl; pressure = refl; pressure_too = refl; at_1200 = refl; at_1199 = refl };
  g_four = record { span = refl; pressure = refl; pressure_too = refl; at_1200 = refl; at_1199 = refl };
  h = record {
    counted = λ c p. example_h c (counted_of (outcome_of job_h) [] [] c nothing_wanted (omega arith) (omega arith) p);
  };
  i = record { too_short = thirteen_bytes };
  j_span = refl;
  j = λ c l k p. example_j c (counted_of (outcome_of job_j) glasses_j panes_j c job_read l k p);
}
