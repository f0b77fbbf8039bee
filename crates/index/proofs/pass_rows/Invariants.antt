-- What is left decides.
use Rattle.std.proofs.Common.{◌≡◌, ◌-◌}
use Rattle.index.specs.Index.{rows_at}
use Rattle.index.specs.Read.{mosts, behind_rows}
use Rattle.index.proofs.pass_rows.Given as goal

abbrev pub invariant-loop-i : goal.invariant-loop-i
invariant-loop-i l = behind_rows (rows_at l.n (mosts l.widths) l.bytes l.at) ≡ behind_rows (rows_at (l.n - l.i) (mosts l.widths) l.bytes l.to)
