-- What is left decides: the widths from here on.
use Rattle.blob.proofs.Laws.{handed}
use Rattle.std.proofs.Common.{ap, sym, ◌∙◌}
use Rattle.number.specs.declared.Width.TheVariants as widths
use Rattle.index.specs.Read.{behind_row}
use Rattle.index.proofs.ReadLaws.{row-over, row_stops, row_goes}
use Rattle.index.proofs.pass_row.Goals as goal

pub returns-in_err-to : goal.returns-in_err-to
returns-in_err-to c =
    rw (handed _ c.from_residual.ensures.1, c.loop-width.invariant) (row_stops _ _ _ _ widths.Byte c.loop-width-test.true _ c.in_err-to.ensures)

pub loop-width-preserved : goal.loop-width-preserved
loop-width-preserved c = c.loop-width.invariant ∙ row_goes _ _ _ _ widths.Byte c.loop-width-test.true _ c.in_ok-to.ensures

pub returns : goal.returns
returns c = sym (c.loop-width.invariant ∙ ap behind_row (row-over _ _ _ _ c.loop-width-test.false))
