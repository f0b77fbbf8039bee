-- What is left to give decides.
use Rattle.std.proofs.Common.{◌+◌, ◌-◌, length}
use Rattle.blob.specs.Laid.{laid, flat}
use Rattle.index.specs.Index.{rows_at, row_words}
use Rattle.index.specs.Read.{mosts, rows_of, RowsLeft}
use Rattle.index.proofs.give_rows.Given as goal

abbrev pub invariant-loop-i : goal.invariant-loop-i
invariant-loop-i l =
    let r = rows_of (rows_at l.n (mosts l.widths) l.bytes l.at) in
    let g = flat (row_words (mosts l.widths)) r.rows in
    RowsLeft (l.n - l.i) (mosts l.widths) l.bytes l.place.at l.place.to l.words r.behind (l.to + length g) (laid l.initial.words l.to g)
