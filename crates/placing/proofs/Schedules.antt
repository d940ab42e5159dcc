-- What is made of a job that was read states its schedule.
--     known_file    an accepted file has what the placing asks of a schedule
--     stated_job    its rows, stocks and ids state its schedule
use Prim.Native.Nat.{ℕ}
use mathlib.Core.Path.{◌≡◌, ap, sym, ◌∙◌}
use mathlib.Core.List.{List}
use lib.ListN.{get_or, replicate, length-map, get_or-map, get_or-append}
use Rattle.basics.specs.Internal.Arrays.{written}
use Rattle.job_glass.specs.GlassLine.{blank_glass}
use Rattle.job_glass.specs.declared.Glass.{Glass}
use Rattle.job_pane.specs.PaneLine.{blank_pane}
use Rattle.job_pane.specs.declared.Pane.{Pane}
use Rattle.job_file.specs.Entries.{glass_ids_of, pane_ids_of, stocks_of}
use Rattle.job_file.specs.Rules.{Rules}
use Rattle.job_file.proofs.Laws.{glass_values, pane_values, glass_ids, pane_ids}
use Rattle.row_placing.specs.Internal.Stated.{Known, Stated}
use Rattle.placing.specs.FileSchedule.{schedule_of}
use Rattle.placing.specs.Internal.Steps.{JobRows}

module _ {glasses : List Glass} {panes : List Pane} (rules : Rules glasses panes) where
  glass_id_at : (g : ℕ) → get_or (glass_ids_of glasses) g 0 ≡ (get_or glasses g blank_glass).id
  glass_id_at g = get_or-map (λ x. x.id) glasses g blank_glass

  pane_id_at : (p : ℕ) → get_or (pane_ids_of panes) p 0 ≡ (get_or panes p blank_pane).id
  pane_id_at p = get_or-map (λ x. x.id) panes p blank_pane

  pub known_file : (sheets : List ℕ) → Known (schedule_of glasses sheets panes)
  known_file sheets = record {
    few = rw length-map rules.of_glasses.at_most;
    id_low = λ g l. rw (glass_id_at g) (glass_values rules g (rw length-map at l)).id_low;
    id_high = λ p l. rw (pane_id_at p) (pane_values rules p (rw length-map at l)).id_high;
    glasses_differ = λ i j l k e. glass_ids rules i j l (rw length-map at k) (sym (glass_id_at i) ∙ e ∙ glass_id_at j);
    panes_differ = λ i j l k e. pane_ids rules i j l (rw length-map at k) (sym (pane_id_at i) ∙ e ∙ pane_id_at j);
  }

-- The rows, stocks and ids of a job's glasses and panes state its schedule.
pub stated_job :
    {glasses : List Glass} {panes : List Pane} → Rules glasses panes → (rows stocks lent_ids ids : List ℕ) →
    JobRows (schedule_of glasses (stocks_of glasses) panes) rows → stocks ≡ written (stocks_of glasses) (replicate 64 0) →
    lent_ids ≡ written (glass_ids_of glasses) (replicate 64 0) →
    ids ≡ pane_ids_of panes → Stated (schedule_of glasses (stocks_of glasses) panes) rows stocks lent_ids ids
stated_job {glasses} {panes} rules rows stocks lent_ids ids are_rows stocks_are lent_are ids_are = record {
  known = known_file rules (stocks_of glasses);
  a_row_each = are_rows.a_row_each;
  rows_are = are_rows.of_panes;
  sheets_are = λ g l. rw stocks_are (get_or-append (stocks_of glasses) _ 0 g (rw length-map (rw length-map at l)));
  glass_ids_are = λ g l. rw lent_are (get_or-append (glass_ids_of glasses) _ 0 g l);
  pane_ids_are = λ p l. ap (λ (ns : List ℕ). get_or ns p 0) ids_are;
}
