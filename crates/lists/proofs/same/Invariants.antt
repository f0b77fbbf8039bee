-- The invariant: what is left decides.
use mathlib.Core.Path.{◌≡◌}
use lib.ListN.{length, take, drop}
use Rattle.format.specs.Lookup.{alike}
use Rattle.lists.specs.Search.{alike_from}
use Rattle.lists.proofs.same.Given as goal

abbrev pub invariant-loop-i : goal.invariant-loop-i
invariant-loop-i l =
    alike (take (length l.key) (drop l.at l.words)) l.key ≡ alike_from l.words l.key l.at l.i
