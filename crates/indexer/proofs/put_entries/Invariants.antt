-- What is stored, with what is left behind it, is the whole.
use Rattle.indexer.specs.Listed.{formed, listed_at}
use Rattle.indexer.specs.Left.{Storing, listed_left}
use Rattle.indexer.proofs.put_entries.Given as goal

abbrev pub invariant-loop-i : goal.invariant-loop-i
invariant-loop-i l =
    Storing (formed (listed_at l.owners l.words 0 l.count l.start)) (formed (listed_left l.owners l.words l.count l.start l.i)) l.initial.bytes l.bytes l.from l.to
