-- The cases hold, by computing.
--     cases    as specs/Cases.antt states them
use mathlib.Core.Path.{◌≡◌, refl}
use Rattle.std.specs.Prelude.{[], ◌∷◌}
use Rattle.job_file.specs.File.{accepted, outcome_of}
use Rattle.span_table.specs.Spans.{spans}
use Rattle.point_load.specs.Support.{column_of}
use Rattle.bench_examples.specs.Cases.{q_file, q_pane, limits_file, limits_glasses, limits_panes, Cases}
use Rattle.bench_examples.proofs.Files.{outcome}

q_line : outcome_of q_file ≡ accepted [] (q_pane ∷ [])
unfolding outcome
q_line = refl

limits : outcome_of limits_file ≡ accepted limits_glasses limits_panes
unfolding outcome
limits = refl

pub cases : Cases
unfolding spans column_of
cases = record {
  q_line = q_line;
  limits = limits;
  kind_3 = refl;
  cover_6 = refl;
  cover_8 = refl;
  cover_10 = refl;
  cover_12 = refl;
  w_within = refl;
  h_beyond = refl;
  flat_awning = refl;
  two_edges = refl;
  kind_3_span = refl;
  kind_4_span = refl;
  at_entry = refl;
  above_entry = refl;
  minimum_above = refl;
  rounded_once = refl;
  uplift = refl;
}
