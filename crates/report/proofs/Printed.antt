-- What the text of a placing asks of the answers, the counts and the group that `place_panes` gives, and that it is the file's. The ids of
-- a job's glasses and panes have at most four digits, so that text fits.
--     Printable, printable    what the text of a placing asks
--     printed                 it is the text of a placing of the job
use Prim.Native.Nat.{ℕ, ◌≤◌, ◌<◌}
use mathlib.Core.Path.{◌≡◌, ap, subst, ◌∙◌}
use mathlib.Core.Logic.{◌⊎◌, inl, inr}
use mathlib.Core.List.{List}
use native.Mathlib.Nat.{min-le_right}
use native.Mathlib.Omega.{arith}
use lib.ListN.{length, get_or, take, length-take, length-map, get_or-map}
use Rattle.std.proofs.lemmas.Bool.{cases_eq}
use Rattle.basics.specs.Lent.{Lent}
use Rattle.job_glass.specs.GlassLine.{blank_glass}
use Rattle.job_glass.specs.declared.Glass.{Glass}
use Rattle.job_pane.specs.PaneLine.{blank_pane}
use Rattle.job_pane.specs.declared.Pane.{Pane}
use Rattle.job_file.specs.Entries.{pane_ids_of, stocks_of}
use Rattle.job_file.specs.Rules.{Rules}
use Rattle.job_file.proofs.Laws.{glass_values, pane_values}
use Rattle.row_placing.specs.Schedule.{Schedule}
use Rattle.row_placing.specs.Placing.{PassingId}
use Rattle.row_placing.specs.ShortGroup.{ShortGroup}
use Rattle.row_placing.specs.Glazed.{Glazed}
use Rattle.row_placing.specs.declared.PlaceCounts.{PlaceCounts}
use Rattle.placing.specs.FileSchedule.{schedule_of}
use Rattle.placing.proofs.Laws.{nonzero_le}
use Rattle.report.specs.Text.{placing_text}
use Rattle.report.specs.Reported.{TextOfPlacing}
use Rattle.report.specs.Internal.Steps.{FourDigits, PaneAnswers}

-- The lists that a call lent have the answers for the panes and the ids of the group at their fronts.
pub record Printable (panes : List Pane) (r : PlaceCounts) (answers group : List ℕ) : Type 0 where
  pub answers_fit : r.wanted ≤ length answers
  pub group_fits : r.group ≤ length group
  pub pane_answers : PaneAnswers (pane_ids_of panes) (take r.wanted answers)
  pub group_short : FourDigits (take r.group group)
  pub placed_short : r.placed ≤ 256

module _
    (glasses : List Glass) (panes : List Pane) (rules : Rules glasses panes)
    (r : PlaceCounts) (answers group : Lent) (g : Glazed (schedule_of glasses (stocks_of glasses) panes) r answers group)
  where
    abbrev schedule : Schedule
    schedule = schedule_of glasses (stocks_of glasses) panes

    -- The ids of a job have at most four digits.
    glass_short : (k : ℕ) → k < length schedule.glass_ids → get_or schedule.glass_ids k 0 ≤ 9999
    glass_short k l = rw (get_or-map (λ x. x.id) glasses k blank_glass) (glass_values rules k (rw length-map at l)).id_high

    pane_short : FourDigits schedule.pane_ids
    pane_short k l = rw (get_or-map (λ x. x.id) panes k blank_pane) (pane_values rules k (rw length-map at l)).id_high

    -- The answers are the ids of the placing, and the group its group.
    answers_long : length g.ids ≡ r.wanted
    answers_long = omega (arith, g.glazing.placing.one_each, g.wanted_is)

    answers_are : take r.wanted answers.after ≡ g.ids
    answers_are = subst (λ (n : ℕ). take n answers.after ≡ g.ids) answers_long g.answers_written.front

    listed_are : take r.group group.after ≡ g.group_ids
    listed_are = rw g.group_is g.group_written.front

    -- What is at the front of a list is within it.
    within : (n : ℕ) (front list : List ℕ) → take n list ≡ front → length front ≡ n → n ≤ length list
    within n front list is long = omega (arith, min-le_right n (length list), length-take n list, ap length is)

    -- An answer is 0 or the id of a glass; the group has ids of panes, or none where all are placed.
    answer_short : FourDigits g.ids
    answer_short k l = go (g.glazing.placing.passing k (omega (arith, g.glazing.placing.one_each)))
      where
        go : (get_or g.ids k 0 ≡ 0) ⊎ PassingId schedule k (get_or g.ids k 0) → get_or g.ids k 0 ≤ 9999
        go (inl e) = omega (arith, e)
        go (inr p) = omega (arith, p.is_id, glass_short p.place p.within)

    group_short : FourDigits g.group_ids
    group_short = go (cases_eq r.placed (length schedule.pane_ids))
      where
        of_panes : ShortGroup schedule g.group_ids → FourDigits g.group_ids
        of_panes s k l = let p = s.some_panes.of_panes k l in omega (arith, p.is_id, pane_short p.place p.within)

        go : (r.placed ≡ length schedule.pane_ids) ⊎ (r.placed ≡ length schedule.pane_ids → ⊥) → FourDigits g.group_ids
        go (inl all) = λ k l. absurd (omega (arith, ap length (g.glazing.if_equal all)))
        go (inr less) = of_panes (g.glazing.if_less less)

    pub printable : Printable panes r answers.after group.after
    printable =
        let long : length (pane_ids_of panes) ≡ length panes = length-map panes (λ x. x.id) in
        record {
          answers_fit = within r.wanted g.ids answers.after answers_are answers_long;
          group_fits = within r.group g.group_ids group.after listed_are (omega (arith, g.group_is));
          pane_answers =
              rw answers_are
              (record {
                one_each = g.glazing.placing.one_each;
                few = omega (arith, g.glazing.placing.one_each, long, rules.of_panes.at_most);
                answers_short = answer_short;
                ids_short = pane_short;
              });
          group_short = rw listed_are group_short;
          placed_short =
              omega (
                arith,
                g.glazing.placed_is,
                nonzero_le g.ids (length panes) (g.glazing.placing.one_each ∙ long),
                rules.of_panes.at_most,
              );
        }

    pub printed :
        (text : List ℕ) →
        text
        ≡ placing_text (pane_ids_of panes) (take r.wanted answers.after) (length (take r.wanted answers.after)) r.placed
        (take r.group group.after) →
        TextOfPlacing glasses panes text
    printed text is =
        record {
          answers = g.ids;
          group = g.group_ids;
          placed = r.placed;
          glazing = g.glazing;
          is_text = rw (answers_are, listed_are, g.glazing.placing.one_each, length-map) at is;
        }
