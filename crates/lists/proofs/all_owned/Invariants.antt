-- The invariant: each event before this one is given.
use mathlib.Core.Bool.{true}
use Rattle.lists.specs.Owners.{AllOwned}
use Rattle.lists.proofs.all_owned.Given as goal

abbrev pub invariant-loop-i : goal.invariant-loop-i
invariant-loop-i l = AllOwned l.owners l.i true
