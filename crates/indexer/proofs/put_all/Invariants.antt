-- What is stored, with what is left behind it, is the whole.
use lib.ListN.{drop}
use Rattle.blob.specs.Laid.{flat}
use Rattle.number.specs.Number.{form}
use Rattle.indexer.specs.Left.{Storing}
use Rattle.indexer.proofs.put_all.Given as goal

abbrev pub invariant-loop-number : goal.invariant-loop-number
invariant-loop-number l = Storing (flat form l.numbers) (flat form (drop l.number-index l.numbers)) l.initial.bytes l.bytes l.at l.to
