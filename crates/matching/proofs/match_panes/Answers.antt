-- `match_panes` meets its contract: the laws of Standing.antt and Turns.antt at the start, at each pane's turn and at the end.
use Rattle.std.proofs.Common.{length, ◌≡◌, refl, arith, rules}
use Rattle.std.proofs.Math.Seq.{length_front}
use Rattle.matching.proofs.Early.{servable_early, served_early, stuck_early}
use Rattle.matching.proofs.Standing.{standing_first, standing_last}
use Rattle.matching.proofs.Turns.{servable, standing_moved, standing_stuck}
use Rattle.matching.proofs.Ways.{entries_are}
use Rattle.matching.proofs.match_panes.Goals as goal
use Rattle.matching.proofs.match_panes.Goals.{in-Ok, in-Err}

pub loop-pane-init : goal.loop-pane-init
loop-pane-init c =
    let emptied = c.fill.ensures.after (λ y e. search rules) in
    let all : length c.args.sheets ≡ 64 = search rules in
    rw (c.new-stock.ensures, emptied, c.requires) (standing_first c.args.rows.now _ refl c.args.sheets all)

pub serve-requires : goal.serve-requires
serve-requires c =
    let s = c.loop-pane.invariant in
    servable_early _ _ _ c.loop-pane-test.true s.same_length _ (servable _ _ _ _ _ _ s c.loop-pane-test.true _)

pub loop-pane-preserved : goal.loop-pane-preserved
loop-pane-preserved c =
    let s = c.loop-pane.invariant in
    let turn = c.loop-pane-test.true in
    let long = c.serve.auto.held in
    elim c.match-serve.branch [
      | in-Ok w ↦
          rw (w.stock-is, w.tight-is, w.take.ensures)
          (standing_moved _ _ _ _ _ _ s turn _ c.spare.ensures _ _ (length_front _ _ _ long)
          (served_early _ _ _ turn s.same_length _ long _ _ _ w.in-Ok.ensures))
      | in-Err w ↦
          rw (w.stock-is, w.tight-is)
          (standing_stuck _ _ _ _ _ _ s turn _ c.spare.ensures _ _
          (stuck_early _ _ _ turn s.same_length _ long _ _ _ (λ p k l. s.waiting p (omega arith) l) w.in-Err.ensures))
    ]

pub returns-clause-greatest : goal.returns-clause-greatest
returns-clause-greatest c = standing_last _ _ _ _ _ _ c.loop-pane-test.false c.loop-pane.invariant

pub returns-clause-entries : goal.returns-clause-entries
returns-clause-entries c = entries_are _ _ _ _ (standing_last _ _ _ _ _ _ c.loop-pane-test.false c.loop-pane.invariant)
