-- The invariant: what is left decides.

use mathlib.Core.Path.{◌≡◌}
use Rattle.indexer.specs.Listed.{Knows, stand, resolved}
use Rattle.format.specs.Area.{EVENTS, width}
use Rattle.indexer.specs.Resolved.{resolved_left}
use Rattle.indexer.proofs.resolve.Given as goal

abbrev pub invariant-loop-i : goal.invariant-loop-i
invariant-loop-i l =
    let a = l.together.fitted.lists in
    stand (width EVENTS) l.count l.start a.words.now
    × Knows a.words.now a.capacities a.counts l.known
    × (resolved a.words.now a.capacities a.counts l.initial.owners ≡ resolved_left a.words.now a.capacities a.counts l.count l.start l.owners l.i)
