-- What is left of the rows decides.
use mathlib.Core.Path.{◌≡◌}
use lib.ListN.{drop}
use Rattle.format.specs.Area.{rows}
use Rattle.counts.specs.Short.{short}
use Rattle.counts.proofs.room.Given as goal

abbrev pub invariant-loop-i : goal.invariant-loop-i
invariant-loop-i l = short (drop l.i rows) (drop l.i l.c) (drop l.i l.needs) ≡ short rows l.c l.needs
