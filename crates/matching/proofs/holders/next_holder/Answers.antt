-- Block after block, and the rest behind the last whole one.
use Rattle.std.proofs.Common.{arith}
use Rattle.matching.proofs.Blocks.{block_none, block_holder}
use Rattle.matching.proofs.holders.next_holder.Goals as goal

pub returns-in-Some : goal.returns-in-Some
returns-in-Some c =
    let l = c.loop-start in
    block_holder _ _ _ l.start _ (omega (arith, c.loop-start-test.true, l.invariant.within)) l.invariant _ c.in-Some.ensures

pub loop-start-preserved : goal.loop-start-preserved
loop-start-preserved c =
    let l = c.loop-start in
    block_none _ _ _ l.start _ (omega (arith, c.loop-start-test.true, l.invariant.within)) l.invariant _ (omega arith)
    c.in_default.ensures

pub returns-in_err-at : goal.returns-in_err-at
returns-in_err-at c =
    let l = c.loop-start in
    rw c.from_residual.ensures
    (block_none _ _ _ l.start _ (omega (arith, l.invariant.within)) l.invariant _ (omega (arith, l.invariant.within))
    c.in_err-at.ensures)

pub returns : goal.returns
returns c =
    let l = c.loop-start in
    block_holder _ _ _ l.start _ (omega (arith, l.invariant.within)) l.invariant _ c.in_ok-at.ensures
