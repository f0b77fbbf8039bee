-- The invariant: what is left decides. The lists from a row on, laid from here, make the words what they shall be.
use Prim.Native.Nat.{◌+◌, ◌≤◌}
use mathlib.Core.Path.{◌≡◌}
use lib.ListN.{length, drop}
use Rattle.format.specs.Area.{rows}
use Rattle.format.specs.Lists.{lists}
use Rattle.format.specs.Answer.{areas, filled}
use Rattle.areas.specs.Areas.{providers_in}
use Rattle.areas.proofs.fill_areas.Given as goal

abbrev pub invariant-loop-i : goal.invariant-loop-i
invariant-loop-i l =
    (l.to + areas (drop l.i rows) (drop l.i l.capacities) ≤ length l.words)
    × (filled l.initial.words 0 rows l.capacities (lists (providers_in l.n l.b)) ≡ filled l.words l.to (drop l.i rows) (drop l.i l.capacities) (drop l.i (lists (providers_in l.n l.b))))
