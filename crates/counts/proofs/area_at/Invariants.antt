-- Row by row.
use Prim.Native.Nat.{◌*◌, ◌≤◌}
use mathlib.Core.Path.{◌≡◌}
use lib.ListN.{take}
use Rattle.format.specs.Area.{rows, WIDEST}
use Rattle.format.specs.Answer.{areas}
use Rattle.counts.proofs.area_at.Given as goal

abbrev pub invariant-loop-i : goal.invariant-loop-i
invariant-loop-i l = (l.sum ≡ areas rows (take l.i l.c)) × (l.sum ≤ l.i * (WIDEST * 4294967295))
