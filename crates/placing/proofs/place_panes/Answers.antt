-- `place_panes` meets its contract: what it hands to `place_rows` states the job's schedule.
use mathlib.Core.Path.{ap, ◌∙◌}
use Rattle.job_file.specs.Entries.{pane_ids_of}
use Rattle.placing.proofs.Schedules.{stated_job}
use Rattle.placing.proofs.place_panes.Goals as goal

pub returns : goal.returns
returns c =
    let glasses = c.glasses.ensures.0 in
    (c.place_rows.ensures.of_any _
    (stated_job c.args.job.now.rules _ _ _ _ (rw c.deref.ensures.0 c.rows_of-rows.ensures)
    (rw glasses at c.of-glasses.ensures.stocks) (rw glasses at c.of-glasses.ensures.ids)
    (c.deref-2.ensures.0 ∙ c.pane_ids.ensures ∙ ap pane_ids_of c.panes.ensures.0))).glazed
