-- The invariant: what is left decides.
use mathlib.Core.Path.{◌≡◌}
use Rattle.format.specs.Area.{EVENTS, width}
use Rattle.format.specs.Lookup.{entries_from}
use Rattle.lists.specs.Entries.{rest}
use Rattle.indexer.specs.Listed.{all_fit}
use Rattle.indexer.proofs.all_fit.Given as goal

abbrev pub invariant-loop-i : goal.invariant-loop-i
invariant-loop-i l =
    all_fit (entries_from (width EVENTS) l.count l.start l.words) ≡ all_fit (rest (width EVENTS) l.words l.count l.start l.i)
