-- The rules of a job hold in one way at most, so two jobs are the same where their lists are.
use Rattle.std.specs.Prelude.{ℕ, ◌≤◌, Bool, List, [], ◌∷◌, map, length}
use Rattle.std.specs.Coded.{×_prop, Unit-prop, le_prop}
use mathlib.Core.Path.{ap}
use lib.Dec.{T_prop}
use Rattle.ids.specs.Ids.{Distinct}
use Rattle.job_part.specs.Part.{Form}
use Rattle.job_part.specs.Rules.{Every, PartRules}
use Rattle.job_glass.specs.GlassLine.{glass_form}
use Rattle.job_glass.specs.declared.Glass.{Glass}
use Rattle.job_pane.specs.PaneLine.{pane_form}
use Rattle.job_pane.specs.declared.Pane.{Pane}
use Rattle.job_file.specs.Rules.{Rules}

every_prop : {A : Type 0} (test : A → Bool) (xs : List A) → IsProp (Every test xs)
unfolding Every
every_prop test [] = Unit-prop
every_prop test (x ∷ xs) = ×_prop (T_prop (test x)) (every_prop test xs)

distinct_prop : (ns : List ℕ) → IsProp (Distinct ns)
unfolding Distinct
distinct_prop [] = Unit-prop
distinct_prop (n ∷ ns) = ×_prop (T_prop _) (distinct_prop ns)

part_rules_prop : {A : Type 0} (form : Form A) (xs : List A) → IsProp (PartRules form xs)
part_rules_prop form xs p q =
    let made : length xs ≤ form.most × (Every form.allowed xs × Distinct (map form.id xs)) → PartRules form xs =
    λ r. record { at_most = r.0; allowed = r.1.0; distinct = r.1.1 } in
    ap made
    (×_prop le_prop (×_prop (every_prop form.allowed xs) (distinct_prop (map form.id xs)))
    (p.at_most, (p.allowed, p.distinct)) (q.at_most, (q.allowed, q.distinct)))

pub rules_prop : (glasses : List Glass) (panes : List Pane) → IsProp (Rules glasses panes)
rules_prop glasses panes p q =
    let made : PartRules glass_form glasses × PartRules pane_form panes → Rules glasses panes =
    λ r. record { of_glasses = r.0; of_panes = r.1 } in
    ap made
    (×_prop (part_rules_prop glass_form glasses) (part_rules_prop pane_form panes)
    (p.of_glasses, p.of_panes) (q.of_glasses, q.of_panes))
