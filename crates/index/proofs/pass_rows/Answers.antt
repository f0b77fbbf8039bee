-- What is left decides.
use Rattle.blob.proofs.Laws.{handed}
use Rattle.std.proofs.Common.{◌≡◌, ◌+◌, ◌-◌, ap, sym, ◌∙◌, arith}
use Rattle.index.specs.Read.{behind_rows}
use Rattle.index.proofs.ReadLaws.{rows-over, rows_stop, rows_go}
use Rattle.index.proofs.pass_rows.Goals as goal

pub returns-in_err-to : goal.returns-in_err-to
returns-in_err-to c =
    rw (handed _ c.from_residual.ensures.1, c.loop-i.invariant) (rows_stop _ _ _ _ _ (omega arith) c.in_err-to.ensures)

pub loop-i-preserved : goal.loop-i-preserved
loop-i-preserved c =
    let n : c.args.n - c.loop-i.i - 1 ≡ c.args.n - (c.loop-i.i + 1) = omega arith in
    rw n at (c.loop-i.invariant ∙ rows_go _ _ _ _ _ (omega arith) c.in_ok-to.ensures)

pub returns : goal.returns
returns c = sym (c.loop-i.invariant ∙ ap behind_rows (rows-over _ _ _ _ (omega arith)))
