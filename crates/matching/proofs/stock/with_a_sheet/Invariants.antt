-- The loop's invariant: of the glasses passed, those with a sheet are in the set, and no others.
use Rattle.std.proofs.Common.{◌&&◌, ltb, get_or}
use Rattle.glass_set.specs.Internal.Member.{Members}
use Rattle.matching.proofs.stock.with_a_sheet.Given as goal

abbrev pub invariant-loop-glass : goal.invariant-loop-glass
invariant-loop-glass l = Members l.spare (λ g. ltb g l.glass && ltb 0 (get_or l.sheets g 0))
