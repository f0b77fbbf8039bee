-- What is left of the rows decides.
use Prim.Native.Nat.{◌+◌, ◌*◌, ◌≤◌}
use mathlib.Core.Path.{◌≡◌}
use mathlib.Core.Bool.{◌&&◌}
use lib.Dec.{leb}
use lib.ListN.{drop}
use Rattle.format.specs.Area.{rows, WIDEST}
use Rattle.format.specs.Answer.{moderate, areas}
use Rattle.counts.proofs.lent_enough.Given as goal

abbrev pub invariant-loop-i : goal.invariant-loop-i
invariant-loop-i l =
    (l.sum ≤ l.i * (WIDEST * 4294967295))
    × ((moderate (drop l.i l.c) && leb (l.sum + areas (drop l.i rows) (drop l.i l.c)) l.words) ≡ (moderate l.c && leb (areas rows l.c) l.words))
