-- What is left to give decides.
use Rattle.std.proofs.Common.{◌+◌, length, drop}
use Rattle.blob.specs.Laid.{laid}
use Rattle.index.specs.Index.{row_at, row_words}
use Rattle.index.specs.Read.{mosts, row_of, RowLeft}
use Rattle.index.proofs.give_row.Given as goal

abbrev pub invariant-loop-width : goal.invariant-loop-width
invariant-loop-width l =
    let r = row_of (row_at (mosts l.widths) l.bytes l.at) in
    let g = row_words (mosts l.widths) r.numbers in
    RowLeft (mosts (drop l.width-index l.widths)) l.bytes l.place.at l.place.to l.words r.behind (l.to + length g) (laid l.initial.words l.to g)
