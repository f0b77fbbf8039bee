-- What is left decides: the widths from here on.
use Rattle.std.proofs.Common.{◌≡◌, drop}
use Rattle.index.specs.Index.{row_at}
use Rattle.index.specs.Read.{mosts, behind_row}
use Rattle.index.proofs.pass_row.Given as goal

abbrev pub invariant-loop-width : goal.invariant-loop-width
invariant-loop-width l = behind_row (row_at (mosts l.widths) l.bytes l.at) ≡ behind_row (row_at (mosts (drop l.width-index l.widths)) l.bytes l.to)
