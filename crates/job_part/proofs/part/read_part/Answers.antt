-- `part::read_part` meets its contract: the loop's invariant, `Progress`, holds of the part at its start, is kept by one line more, and
-- says at each return how the part ends.
use native.Mathlib.Omega.{arith}
use Rattle.std.proofs.lemmas.Grind.{common_steps}
use Rattle.job_part.proofs.Parts.{progress_begin, progress_taken, progress_many, progress_end}
use Rattle.job_part.proofs.part.read_part.Goals as goal

pub loop-rest-init : goal.loop-rest-init
loop-rest-init g c = rw c.clear.ensures (progress_begin _ _ _ _ c.new-seen.ensures)

pub returns-then-is_full : goal.returns-then-is_full
returns-then-is_full g c = rw c.at.ensures (progress_many _ _ _ _ _ _ c.loop-rest.invariant (grind (arith, common_steps)) (grind (arith, common_steps)))

pub loop-rest-preserved : goal.loop-rest-preserved
loop-rest-preserved g c =
    progress_taken _ _ _ _ _ _ c.loop-rest.invariant _ _ _ _ (grind (arith, common_steps)) (grind (arith, common_steps))
    (c.in_ok-entry.ensures.cause _ c.loop-rest.invariant.ids)
    c.push.ensures.items
    (rw c.id.ensures at (c.insert.ensures _ c.loop-rest.invariant.ids))

pub returns : goal.returns
returns g c = progress_end _ _ _ _ _ _ c.loop-rest.invariant (grind (arith, common_steps))
