-- A struct of a placing has the counts of what the two lists hold.
--     placed_told    as specs/Results.antt states it
use Prim.Native.Nat.{ℕ}
use mathlib.Core.Path.{◌≡◌, sym, ap, subst, subst⁻¹, ◌∙◌}
use lib.ListN.{length, take}
use Rattle.causes.specs.Answer.{gives}
use Rattle.row_placing.specs.Placing.{nonzero, Placing}
use Rattle.row_placing.specs.ShortGroup.{ShortGroup}
use Rattle.placing.specs.FileSchedule.{file_schedule}
use Rattle.placing.specs.Promise.{call}
use Rattle.placing.proofs.Laws.{counted_of}
use Rattle.bordavina.specs.Results.{place_result, PlacedTold}

pub placed_told : PlacedTold
placed_told o glasses panes r answers answers_after group group_after is l k p =
    let s = file_schedule glasses panes in
    let c = counted_of o glasses panes (call p.answer answers answers_after group group_after) is l k p.promised in
    let g = c.glazed in
    let told : r ≡ place_result (gives c.counts) = p.result_is ∙ ap place_result c.result_is in
    let wanted : r.wanted ≡ length s.pane_ids = ap (λ x. x.wanted) told ∙ g.wanted_is in
    let placed : r.placed ≡ c.counts.placed = ap (λ x. x.placed) told in
    let count : r.group ≡ length g.group_ids = ap (λ x. x.group) told ∙ g.group_is in
    let long : length g.ids ≡ r.wanted = g.glazing.placing.one_each ∙ sym wanted in
    let given : take r.wanted answers_after ≡ g.ids =
    subst (λ (n : ℕ). take n answers_after ≡ g.ids) long g.answers_written.front in
    let listed : take r.group group_after ≡ g.group_ids =
    subst (λ (n : ℕ). take n group_after ≡ g.group_ids) (sym count) g.group_written.front in
    record {
      wanted = wanted;
      placed = placed ∙ g.glazing.placed_is ∙ ap nonzero (sym given);
      placing = subst⁻¹ (Placing s) given g.glazing.placing;
      if_equal = λ all. count ∙ ap length (g.glazing.if_equal (sym placed ∙ all ∙ wanted));
      if_less = λ less. subst⁻¹ (ShortGroup s) listed (g.glazing.if_less (λ all. less (placed ∙ all ∙ sym wanted)));
    }
