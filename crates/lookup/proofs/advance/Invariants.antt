-- The invariant: what is left decides.
use mathlib.Core.Path.{◌≡◌}
use Rattle.format.specs.Area.{TEMPLATES, place}
use Rattle.lists.specs.Found.{run_of}
use Rattle.lookup.specs.Given.{Stands, new_of}
use Rattle.lookup.proofs.advance.Given as goal

abbrev pub invariant-loop-n : goal.invariant-loop-n
invariant-loop-n l =
    let a = l.together.fitted.lists in
    Stands a.words.now (run_of a.capacities a.counts (place TEMPLATES)) l.at
    × (new_of a.words.now a.capacities a.counts l.guid l.key l.initial.marks l.initial.at ≡ new_of a.words.now a.capacities a.counts l.guid l.key l.marks l.at)

abbrev pub decreases-loop-n : goal.decreases-loop-n
decreases-loop-n l = l.at.providers.count
