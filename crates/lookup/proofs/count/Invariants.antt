-- The invariant: those that are left are the ones that are not counted yet.
use Prim.Native.Nat.{◌+◌}
use mathlib.Core.Path.{◌≡◌}
use lib.ListN.{length}
use Rattle.format.specs.Area.{TEMPLATES, place}
use Rattle.lists.specs.Found.{run_of}
use Rattle.lookup.specs.Given.{unset, Stands, new_of}
use Rattle.lookup.proofs.count.Given as goal

abbrev pub invariant-loop-n : goal.invariant-loop-n
invariant-loop-n l =
    let a = l.together.fitted.lists in
    Stands a.words.now (run_of a.capacities a.counts (place TEMPLATES)) l.at
    × (length (new_of a.words.now a.capacities a.counts l.guid l.key unset l.initial.at) ≡ l.n + length (new_of a.words.now a.capacities a.counts l.guid l.key l.marks l.at))
