-- What is counted, with what is left, is the whole.
use Prim.Native.Nat.{◌+◌}
use mathlib.Core.Path.{◌≡◌}
use lib.ListN.{length}
use Rattle.indexer.specs.Listed.{formed, listed_at}
use Rattle.indexer.specs.Left.{listed_left}
use Rattle.indexer.proofs.size_entries.Given as goal

abbrev pub invariant-loop-i : goal.invariant-loop-i
invariant-loop-i l =
    let all = listed_at l.owners l.words 0 l.count l.start in
    let left = listed_left l.owners l.words l.count l.start l.i in
    (l.entries + length left ≡ length all) × (l.bytes + length (formed left) ≡ length (formed all))
