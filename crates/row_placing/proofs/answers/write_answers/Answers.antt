-- `answers::write_answers` meets its contract, by the loop's invariant: the panes below `pane` have been answered.
use Prim.Native.Nat.{◌≤◌}
use mathlib.Core.Path.{◌≡◌, refl, ◌∙◌}
use mathlib.Core.Bool.{Bool, true, false, not}
use native.Mathlib.Omega.{arith}
use lib.Dec.{eqb}
use mir.Val.{bool_byte}
use Rattle.std.specs.Prelude.{if◌then◌else◌}
use Rattle.row_placing.proofs.Writes.{answered_none, answered_next, answered_le}
use Rattle.row_placing.proofs.answers.write_answers.Goals as goal

-- What an id adds to the count.
one_unless_zero : (zero : Bool) → bool_byte (not zero) ≡ (if zero then 0 else 1)
one_unless_zero true = refl
one_unless_zero false = refl

pub loop-pane-init : goal.loop-pane-init
loop-pane-init c = answered_none c.args.ids.now c.args.held.now c.args.answers.now c.requires

pub loop-pane-preserved : goal.loop-pane-preserved
loop-pane-preserved c =
    let a = c.args in
    let l = c.loop-pane in
    rw (c.from-placed.ensures ∙ one_unless_zero (eqb c.id_held-id.result 0))
    (answered_next a.ids.now a.held.now a.answers.now c.requires l.pane l.answers l.placed c.id_held-id.result (omega arith)
    c.id_held-id.ensures l.invariant)

pub overflow_add-placed : goal.overflow_add-placed
overflow_add-placed c =
    let a = c.args in
    let most = answered_le a.ids.now a.held.now a.answers.now c.requires c.loop-pane.pane _ _ (omega arith) c.loop-pane.invariant in
    let one : c.from-placed.result ≤ 1 = rw c.from-placed.ensures (go (not (eqb c.id_held-id.result 0))) in
    record { fits = omega arith }
  where
    go : (b : Bool) → bool_byte b ≤ 1
    go true = omega arith
    go false = omega arith
