-- `push_panes` meets its contract: the loop's next pane and answer are those behind the ones that it has passed.
use Rattle.std.proofs.Common.{rules, arith, ◌≡◌, ◌<◌, ◌∙◌, [], ◌∷◌, length, get_or, length-append, ap, sym}
use Rattle.std.proofs.lemmas.Grind.{common_steps}
use lib.ListN.{get_or-map}
use Rattle.std.proofs.lemmas.Slice.Zip.{zip_turn}
use Rattle.job_pane.specs.PaneLine.{blank_pane}
use Rattle.job_pane.specs.declared.Pane.{Pane}
use Rattle.job_file.specs.Entries.{pane_ids_of}
use Rattle.report.proofs.Written.{lines_next}
use Rattle.report.proofs.text.push_panes.Goals as goal
use Rattle.report.proofs.text.push_panes.Goals.{In-Some}

-- A turn has the next pane's id and its answer.
next_pane :
    (c : In-Some) →
    let n = length c.loop-pane.yielded in
    (n < length c.args.answers.now)
    × (c.in-Some.pane.now.id ≡ get_or (pane_ids_of c.args.panes.now) n 0)
    × (c.in-Some.glass.now ≡ get_or c.args.answers.now n 0)
next_pane c =
    let n = length c.loop-pane.yielded in
    let turn = zip_turn c.args.panes.now c.args.answers.now c.loop-pane.yielded c.into_iter-pane-iterator.result
    c.loop-pane.pane-iterator c.next.new.self c.next.result (search rules) (search rules) c.loop-pane.yielded_by
    (c.in-Some.pane, c.in-Some.glass) c.in-Some.is c.next.ensures.steps in (
      turn.1,
      ap (λ (p : Pane). p.id) (turn.2 blank_pane) ∙ sym (get_or-map (λ (p : Pane). p.id) c.args.panes.now n blank_pane),
      turn.3 0,
    )

pub push_pair-requires : goal.push_pair-requires
push_pair-requires c =
    let n = length c.loop-pane.yielded in
    let next = next_pane (goal.at.push_pair-requires c).In-Some in (
      omega (arith, next.1, c.requires.0.ids_short n (omega (arith, next.0, c.requires.0.one_each))),
      omega (arith, next.2, c.requires.0.answers_short n next.0),
      omega (arith, next.0, c.requires.1),
    )

pub loop-pane-preserved : goal.loop-pane-preserved
loop-pane-preserved c =
    let next = next_pane (goal.at.loop-pane-preserved c).In-Some in
    let line = lines_next _ c.args.answers.now (length c.loop-pane.yielded) _ _ next.1 next.2 in
    let one_more = length-append c.loop-pane.yielded ((c.in-Some.pane, c.in-Some.glass) ∷ []) in
    record { bytes = rw one_more (grind (arith, common_steps, line)); room = omega (arith, one_more) }
