-- What is stored, with what is left behind it, is the whole.
use Rattle.indexer.specs.Listed.{count_bytes}
use Rattle.indexer.specs.Left.{Storing, counts_left}
use Rattle.indexer.proofs.put_counts.Given as goal

abbrev pub invariant-loop-i : goal.invariant-loop-i
invariant-loop-i l = Storing (count_bytes l.words l.count l.start) (counts_left l.words l.count l.start l.i) l.initial.bytes l.bytes l.from l.to
