-- Figures that the documents state, and cases that tell a rule from one that it may be mistaken for, beside the bench examples.
use Rattle.std.specs.Prelude.{ℕ, ◌≡◌, true, false, List, [], ◌∷◌, ◌++◌}
use Rattle.job_line.specs.Bytes.{bytes_of}
use Rattle.job_glass.specs.declared.Glass.{Glass}
use Rattle.job_pane.specs.declared.Pane.{Pane}
use Rattle.job_pane.specs.declared.Wind.TheVariants.{ByPressure, ByClass}
use Rattle.job_file.specs.File.{accepted, outcome_of}
use Rattle.cut_size.specs.EdgeCover.{edge_cover}
use Rattle.cut_size.specs.Size.{size_fails}
use Rattle.dead_loads.specs.DeadLoads.{maximum_at, minimum_at}
use Rattle.span_table.specs.Spans.{max_span}
use Rattle.span_table.specs.declared.Column.TheVariants.{Ar1}
use Rattle.point_load.specs.LiveLoad.{live_load}
use Rattle.point_load.specs.Support.{span_of}
use Rattle.point_load.specs.PointLoad.{point_load_fails}
use Rattle.uniform_load.specs.GlassLoads.{max_dead_load}
use Rattle.uniform_load.specs.UniformLoad.{design_pressure}
use Rattle.clauses.specs.Kind.{kind_fails}
use Rattle.bench_examples.specs.Examples.{some_pane, some_glass}

-- A roof near its edge in C4, by a `Q` line.
abbrev pub q_file : List ℕ
q_file = bytes_of "Q 1 2 0 1 99999 500 100 10 2\n" ++ bytes_of "T 00000 00000\n"

abbrev pub q_pane : Pane
q_pane = record { id = 1; edges = 2; angle = 0; awning = 1; top = 99999; w = 500; h = 100; wind = ByClass 10 2 }

-- Lines in which each number is the largest that is allowed, and the smallest.
abbrev pub limits_file : List ℕ
limits_file =
    bytes_of "G 9999 4 12 9999 9999 99999 99999 999\n"
    ++ bytes_of "G 1 1 6 1 1 1 1 0\n"
    ++ bytes_of "P 9999 4 74 1 99999 5000 5000 1000 1000\n"
    ++ bytes_of "P 1 2 0 0 0 1 1 0 0\n"
    ++ bytes_of "Q 2 2 0 0 0 1 1 1 1\n"
    ++ bytes_of "T 00000 00056\n"

abbrev pub limits_glasses : List Glass
limits_glasses =
    record { id = 9999; kind = 4; thick = 12; w = 9999; h = 9999; two = 99999; four = 99999; stock = 999 }
    ∷ record { id = 1; kind = 1; thick = 6; w = 1; h = 1; two = 1; four = 1; stock = 0 }
    ∷ []

abbrev pub limits_panes : List Pane
limits_panes =
    record { id = 9999; edges = 4; angle = 74; awning = 1; top = 99999; w = 5000; h = 5000; wind = ByPressure 1000 1000 }
    ∷ record { id = 1; edges = 2; angle = 0; awning = 0; top = 0; w = 1; h = 1; wind = ByPressure 0 0 }
    ∷ record { id = 2; edges = 2; angle = 0; awning = 0; top = 0; w = 1; h = 1; wind = ByClass 1 1 }
    ∷ []

pub record Cases : Type 0 where
  -- a `Q` line is read, and so is each number at either of its limits
  pub q_line : outcome_of q_file ≡ accepted [] (q_pane ∷ [])
  pub limits : outcome_of limits_file ≡ accepted limits_glasses limits_panes
  -- clause 1 stops kind 4 alone
  pub kind_3 : kind_fails (some_pane 4 3000 900 1500 0) (some_glass 3 6 1 1) ≡ false
  -- the cover of each thickness; with two edges both sides take it too
  pub cover_6 : edge_cover 6 ≡ 6
  pub cover_8 : edge_cover 8 ≡ 8
  pub cover_10 : edge_cover 10 ≡ 8
  pub cover_12 : edge_cover 12 ≡ 9
  pub w_within : size_fails (some_pane 2 0 2382 100 0) (some_glass 1 12 1 1) ≡ false
  pub h_beyond : size_fails (some_pane 2 0 2382 3583 0) (some_glass 1 12 1 1) ≡ true
  -- 1.8 kN on an awning that lies flat
  pub flat_awning : live_load 0 1 ≡ 18
  -- with two edges B is w, also where h is shorter
  pub two_edges : span_of q_pane ≡ 500
  -- the tables of kinds 3 and 4; a span that equals its entry, and one 1 mm above it
  pub kind_3_span : max_span 3 11 6 Ar1 ≡ 1100
  pub kind_4_span : max_span 4 11 6 Ar1 ≡ 1300
  pub at_entry : point_load_fails (some_pane 4 0 350 700 0) (some_glass 1 10 1 1) ≡ false
  pub above_entry : point_load_fails (some_pane 4 0 351 702 0) (some_glass 1 10 1 1) ≡ true
  -- the minimum at 16 degrees is of the row above; the row below has 13
  pub minimum_above : minimum_at 16 ≡ 12
  -- the maximum of tempered glass is rounded up once; twice would give 59
  pub rounded_once : max_dead_load (maximum_at 10) (some_glass 2 10 1 1) ≡ 58
  -- the wind from below governs, less what toughened glass weighs at the least: 998 - 26
  pub uplift : design_pressure q_pane (some_glass 4 12 1 1) ≡ 972
