-- `lists::GlassLists::of` meets its contract: each array has the numbers of the glasses, and zeros past the last.
use Rattle.std.proofs.Common.{rules}
use Rattle.placing.proofs.Padded.{padded}
use Rattle.placing.proofs.lists.GlassLists.of.Goals as goal

pub returns-clause-stocks : goal.returns-clause-stocks
returns-clause-stocks c =
    padded (λ glass. glass.stock) c.args.glasses.now _ _ _ 64 c.from_fn.ensures.items c.requires (λ i y q k. search (rules, k))

pub returns-clause-ids : goal.returns-clause-ids
returns-clause-ids c =
    padded (λ glass. glass.id) c.args.glasses.now _ _ _ 64 c.from_fn-2.ensures.items c.requires (λ i y q k. search (rules, k))
