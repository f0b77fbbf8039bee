-- What is counted, with what is left, is the whole.
use Prim.Native.Nat.{◌+◌}
use mathlib.Core.Path.{◌≡◌}
use lib.ListN.{length, drop}
use Rattle.blob.specs.Laid.{flat}
use Rattle.number.specs.Number.{form}
use Rattle.indexer.proofs.size_all.Given as goal

abbrev pub invariant-loop-number : goal.invariant-loop-number
invariant-loop-number l = l.n + length (flat form (drop l.number-index l.numbers)) ≡ length (flat form l.numbers)
