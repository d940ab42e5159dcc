-- `text_of` meets its contract: the offset of a refusal is written whole.
use Rattle.std.proofs.Common.{arith, sym}
use Rattle.job_file.proofs.Laws.{refused_within}
use Rattle.report.proofs.text_of.Goals as goal

pub refusal_text-requires : goal.refusal_text-requires
refusal_text-requires c = omega (arith, refused_within _ _ _ (sym c.in-Err.ensures))
