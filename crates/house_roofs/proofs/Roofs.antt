-- A job as pressures keeps the rules and has the schedule of the job: ids do not change, and neither does any verdict.
--     ids_same         the ids of panes as pressures
--     verdict_same     the verdict of each pane and glass, by their places
--     schedule_same    the schedule
--     same_roof        as specs/SameRoof.antt states it
use Prim.Native.Nat.{ℕ}
use mathlib.Core.Path.{◌≡◌, ap, subst⁻¹, ◌∙◌}
use mathlib.Core.List.{List, [], ◌∷◌, map, map-map}
use lib.ListN.{length-map, get_or-map}
use Rattle.ids.specs.Ids.{Distinct}
use Rattle.job_part.specs.Rules.{Every, PartRules}
use Rattle.job_glass.specs.declared.Glass.{Glass}
use Rattle.job_pane.specs.PaneLine.{allowed_pane, pane_form, blank_pane}
use Rattle.job_pane.specs.declared.Pane.{Pane}
use Rattle.job_file.specs.Entries.{glass_at, pane_at, glass_ids_of, pane_ids_of}
use Rattle.uniform_load.specs.AsPressures.{as_pressures}
use Rattle.clauses.specs.Verdict.{verdict_of}
use Rattle.clauses.proofs.Laws.{wind_laws, as_pressures_laws}
use Rattle.placing.specs.FileSchedule.{is_pass, schedule_of}
use Rattle.house_roofs.specs.SameRoof.{SameRoof}

pub ids_same : (panes : List Pane) → pane_ids_of (map as_pressures panes) ≡ pane_ids_of panes
ids_same panes = map-map (λ p. p.id) as_pressures panes

module _ (glasses : List Glass) (panes : List Pane) where
  pub verdict_same :
      (p g : ℕ) → verdict_of (pane_at (map as_pressures panes) p) (glass_at glasses g) ≡ verdict_of (pane_at panes p) (glass_at glasses g)
  verdict_same p g =
      ap (λ x. verdict_of x (glass_at glasses g)) (get_or-map as_pressures panes p blank_pane)
      ∙ (wind_laws (pane_at panes p) (glass_at glasses g)).by_pressures

  pub schedule_same : (sheets : List ℕ) → schedule_of glasses sheets (map as_pressures panes) ≡ schedule_of glasses sheets panes
  schedule_same sheets = λ i. record {
    glass_ids = glass_ids_of glasses;
    sheets = sheets;
    pane_ids = ids_same panes i;
    passes = λ p g. is_pass (verdict_same p g i);
  }

every_pressures : (panes : List Pane) → Every allowed_pane panes → Every allowed_pane (map as_pressures panes)
unfolding Every
every_pressures [] h = tt
every_pressures (p ∷ panes) h = ((as_pressures_laws p).allowed_kept h.0, every_pressures panes h.1)

pane_rules : (panes : List Pane) → PartRules pane_form panes → PartRules pane_form (map as_pressures panes)
pane_rules panes r = record {
  at_most = rw length-map r.at_most;
  allowed = every_pressures panes r.allowed;
  distinct = subst⁻¹ Distinct (ids_same panes) r.distinct;
}

pub same_roof : (glasses : List Glass) (panes : List Pane) → SameRoof glasses panes
same_roof glasses panes = record {
  rules_kept = λ r. record { of_glasses = r.of_glasses; of_panes = pane_rules panes r.of_panes };
  to_place = schedule_same glasses panes;
}
