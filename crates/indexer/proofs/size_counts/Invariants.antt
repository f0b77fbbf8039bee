-- What is counted, with what is left, is the whole.
use Prim.Native.Nat.{◌+◌}
use mathlib.Core.Path.{◌≡◌}
use lib.ListN.{length}
use Rattle.indexer.specs.Listed.{count_bytes}
use Rattle.indexer.specs.Left.{counts_left}
use Rattle.indexer.proofs.size_counts.Given as goal

abbrev pub invariant-loop-i : goal.invariant-loop-i
invariant-loop-i l = l.n + length (counts_left l.words l.count l.start l.i) ≡ length (count_bytes l.words l.count l.start)
