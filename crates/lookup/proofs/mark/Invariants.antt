-- The invariant: what is left decides.
use mathlib.Core.Path.{◌≡◌}
use Rattle.lookup.specs.Given.{marked, marked_rest}
use Rattle.lookup.proofs.mark.Given as goal

abbrev pub invariant-loop-i : goal.invariant-loop-i
invariant-loop-i l =
    marked l.words l.list l.guid l.initial.marks ≡ marked_rest l.words l.guid l.list.count l.list.start l.i l.marks
