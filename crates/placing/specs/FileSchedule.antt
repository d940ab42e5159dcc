-- Which glass passes for which pane, and what is to be placed of a file: document 01, "The placing".
use Rattle.std.specs.Prelude.{ℕ, Bool, true, false, List}
use Rattle.job_glass.specs.declared.Glass.{Glass}
use Rattle.job_pane.specs.declared.Pane.{Pane}
use Rattle.job_file.specs.Entries.{glass_at, pane_at, glass_ids_of, pane_ids_of, stocks_of}
use Rattle.clauses.specs.Verdict.{verdict_of}
use Rattle.clauses.specs.declared.judging.Verdict.{Verdict}
use Rattle.clauses.specs.declared.judging.Verdict.TheVariants.{Passes, Fails}
use Rattle.row_placing.specs.Schedule.{Schedule}

abbrev pub is_pass : Verdict → Bool
is_pass Passes = true
is_pass (Fails clause) = false

-- Whether a glass passes for a pane: whether that is the verdict of the two by the four clauses.
abbrev pub passes_for : Pane → Glass → Bool
passes_for p g = is_pass (verdict_of p g)

-- The panes of a file, and its glasses with so many sheets of each.
abbrev pub schedule_of : List Glass → List ℕ → List Pane → Schedule
schedule_of glasses sheets panes = record {
  glass_ids = glass_ids_of glasses;
  sheets = sheets;
  pane_ids = pane_ids_of panes;
  passes = λ p g. passes_for (pane_at panes p) (glass_at glasses g);
}

-- What `place` is to place of a file: its panes, from its stocks.
abbrev pub file_schedule : List Glass → List Pane → Schedule
file_schedule glasses panes = schedule_of glasses (stocks_of glasses) panes
