-- `place` meets its contract: the file's own refusal, the refusal of a lent list, or the placing of the job that was read.
use mathlib.Core.Path.{ap, sym}
use native.Mathlib.Omega.{arith}
use lib.ListN.{length}
use Rattle.std.proofs.lemmas.Result.{err_from_is_err_and}
use Rattle.placing.proofs.Promises.{promised_refusal, promised_short, promised_counted}
use Rattle.placing.proofs.place.Goals as goal

pub returns-in_err-job : goal.returns-in_err-job
returns-in_err-job c =
    let p = err_from_is_err_and c.from_residual.result c.from_residual.ensures.1 in
    rw (p.1, p.2) (promised_refusal _ c.args.answers.now c.args.group.now _ _ (sym c.in_err-job.ensures))

pub returns-then-shorter-panes : goal.returns-then-shorter-panes
returns-then-shorter-panes c =
    let panes = ap length c.panes.ensures.0 in
    rw c.at.ensures (promised_short _ c.args.answers.now c.args.group.now _ _ (sym c.in_ok-job.ensures) (omega (arith, panes)))

pub returns : goal.returns
returns c =
    let panes = ap length c.panes.ensures.0 in
    promised_counted _ c.args.answers.now c.args.group.now _ _ (sym c.in_ok-job.ensures) c.place_panes.result
    c.place_panes.new.answers c.place_panes.new.group (omega (arith, panes)) c.place_panes.ensures
