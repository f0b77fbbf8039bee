-- What is left of the rows decides.
use mathlib.Core.Path.{◌≡◌}
use lib.ListN.{length}
use Rattle.format.specs.Area.{AREAS}
use Rattle.format.specs.Steps.Needs.{plus, modest}
use Rattle.counts.specs.Short.{plus_from}
use Rattle.counts.proofs.add.Given as goal

abbrev pub invariant-loop-i : goal.invariant-loop-i
invariant-loop-i l = (length l.sums ≡ AREAS) × modest l.sums × (plus_from l.i l.sums l.more ≡ plus l.initial.sums l.more)
