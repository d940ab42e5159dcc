-- Documents 01 and 02, "Bench examples": (a) to (j), of which (f) is of kind 1. (h) and (j) are of every call of `place` that keeps its
-- promise.
use Rattle.std.specs.Prelude.{ℕ, ◌≤◌, ◌≡◌, true, false, List, [], ◌∷◌, length, take}
use Rattle.causes.specs.Answer.{gives}
use Rattle.causes.specs.declared.Cause.TheVariants.{FileLength}
use Rattle.dead_loads.specs.DeadLoads.{maximum_at, minimum_at}
use Rattle.job_glass.specs.declared.Glass.{Glass}
use Rattle.job_pane.specs.declared.Pane.{Pane}
use Rattle.job_pane.specs.declared.Wind.TheVariants.{ByPressure}
use Rattle.job_file.specs.File.{accepted, refused, outcome_of}
use Rattle.span_table.specs.Spans.{max_span}
use Rattle.point_load.specs.LiveLoad.{live_load}
use Rattle.span_table.specs.declared.Column.TheVariants.{Ar2, Ar3, TwoEdge}
use Rattle.point_load.specs.Support.{column_of, span_of}
use Rattle.uniform_load.specs.GlassLoads.{max_dead_load, min_dead_load}
use Rattle.uniform_load.specs.UniformLoad.{design_pressure, uniform_load_fails}
use Rattle.clauses.specs.Kind.{kind_fails}
use Rattle.clauses.specs.Verdict.{verdict_of}
use Rattle.clauses.specs.declared.judging.Verdict.TheVariants.{Passes, Fails}
use Rattle.row_placing.specs.declared.PlaceCounts.{PlaceCounts}
use Rattle.placing.specs.Promise.{Call, Promised}
use Rattle.bench_examples.specs.Files.{pane3000, pane3001, pane_c, glass8, glass10, job_h, job_j}

-- A pane and a glass of ordinary values, but for those that an example names.
abbrev pub some_pane : (edges top w h down : ℕ) → Pane
some_pane edges top w h down = record {
  id = 1;
  edges = edges;
  angle = 0;
  awning = 0;
  top = top;
  w = w;
  h = h;
  wind = ByPressure down 0;
}

abbrev pub some_glass : (kind thick two four : ℕ) → Glass
some_glass kind thick two four = record {
  id = 1;
  kind = kind;
  thick = thick;
  w = 2400;
  h = 3600;
  two = two;
  four = four;
  stock = 1;
}

-- (a) The live load, in tenths of a kN: below 30 degrees, from 30 on, on an awning.
pub record ExampleA : Type 0 where
  pub at_29 : live_load 29 0 ≡ 11
  pub at_30 : live_load 30 0 ≡ 5
  pub awning : live_load 45 1 ≡ 18

-- (b) Clause 1 stops kind 4 from 3000 on.
pub record ExampleB (kind4 : Glass) : Type 0 where
  pub at_2999 : kind_fails (some_pane 4 2999 900 1500 60) kind4 ≡ false
  pub at_3000 : kind_fails (some_pane 4 3000 900 1500 60) kind4 ≡ true

-- (c) The columns of four panes, and a file with each of the last two. By the two-edge column 8 mm spans 800, so the last, a ribbon,
-- fails with it; by AR=3 (1600) it would pass. It passes with 10 mm (1600), by "four".
pub record ExampleC : Type 0 where
  pub by_2000 : column_of (some_pane 4 3000 1000 2000 60) ≡ Ar2
  pub by_2001 : column_of (some_pane 4 3000 1000 2001 60) ≡ Ar3
  pub by_3000 : column_of (some_pane 4 3000 1000 3000 60) ≡ Ar3
  pub by_3001 : column_of (some_pane 4 3000 1000 3001 60) ≡ TwoEdge
  pub accepts_3000 : outcome_of pane3000 ≡ accepted [] (pane_c 3000 ∷ [])
  pub accepts_3001 : outcome_of pane3001 ≡ accepted (glass8 ∷ glass10 ∷ []) (pane_c 3001 ∷ [])
  pub with_8 : verdict_of (pane_c 3001) glass8 ≡ Fails 3
  pub with_10 : verdict_of (pane_c 3001) glass10 ≡ Passes

-- (d) The span at 5 tenths of a kN is shorter than that at 11.
pub record ExampleD : Type 0 where
  pub at_5 : max_span 2 5 10 Ar3 ≡ 1800
  pub at_11 : max_span 2 11 10 Ar3 ≡ 2000

-- (e) The maximum is of the row at 30 degrees, and the minimum of that at 35.
pub record ExampleE : Type 0 where
  pub maximum : maximum_at 32 ≡ 49
  pub minimum : minimum_at 32 ≡ 11

-- (f) 56 and 13, times 8, divided by 6.
pub record ExampleF (annealed8 : Glass) : Type 0 where
  pub maximum : max_dead_load (maximum_at 10) annealed8 ≡ 75
  pub minimum : min_dead_load (minimum_at 10) annealed8 ≡ 17

-- (g) B 100 and P 144, with K 1200 and with K 1199. With 6 mm glass of kind 1 laid flat the maximum dead load is 57, so down is 87.
pub record ExampleG (p : Pane) (k1200 k1199 : Glass) : Type 0 where
  pub span : span_of p ≡ 100
  pub pressure : design_pressure p k1200 ≡ 144
  pub pressure_too : design_pressure p k1199 ≡ 144
  pub at_1200 : uniform_load_fails p k1200 ≡ false
  pub at_1199 : uniform_load_fails p k1199 ≡ true

abbrev pub counts : (wanted placed group : ℕ) → PlaceCounts
counts wanted placed group = record { wanted = wanted; placed = placed; group = group }

-- (h) A trailer alone.
pub record ExampleH : Type 0 where
  pub counted : (c : Call) → Promised (outcome_of job_h) c → c.result ≡ gives (counts 0 0 0)

-- (i) Any 13 bytes.
pub record ExampleI : Type 0 where
  pub too_short : (file : List ℕ) → length file ≡ 13 → outcome_of file ≡ refused FileLength 0

-- (j) The job of "The program `canopy`": the answers 7 and 9 and the counts 2 and 2, since no other keeps the promise. The lent lists
-- have room for the two panes; else the call is refused with number 9.
pub record ExampleJ (c : Call) : Type 0 where
  pub counted : c.result ≡ gives (counts 2 2 0)
  pub answers : take 2 c.answer_list.after ≡ 7 ∷ 9 ∷ []

pub record Examples : Type 0 where
  pub a : ExampleA
  pub b : ExampleB (some_glass 4 6 1200 1200)
  pub c : ExampleC
  pub d : ExampleD
  pub e : ExampleE
  pub f : ExampleF (some_glass 1 8 1200 1200)
  -- by two edges and by four, with the other constant too small or too large
  pub g_two : ExampleG (some_pane 2 2000 100 500 87) (some_glass 1 6 1200 1) (some_glass 1 6 1199 99999)
  pub g_four : ExampleG (some_pane 4 2000 200 100 87) (some_glass 1 6 1 1200) (some_glass 1 6 99999 1199)
  pub h : ExampleH
  pub i : ExampleI
  -- why pane 2 of (j) needs 12 mm
  pub j_span : max_span 1 11 10 Ar2 ≡ 350
  pub j : (c : Call) → 2 ≤ length c.answer_list.before → 2 ≤ length c.group_list.before → Promised (outcome_of job_j) c → ExampleJ c
