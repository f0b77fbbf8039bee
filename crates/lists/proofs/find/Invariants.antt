-- The invariant: what is left decides.
use Prim.Native.Nat.{◌+◌}
use mathlib.Core.Path.{◌≡◌}
use Rattle.format.specs.Lookup.{position}
use Rattle.lists.specs.Entries.{rest}
use Rattle.lists.specs.Found.{entries, has}
use Rattle.lists.proofs.find.Given as goal

abbrev pub invariant-loop-number : goal.invariant-loop-number
invariant-loop-number l =
    position (has l.from l.key) l.run.first (entries l.width l.run l.words)
    ≡ position (has l.from l.key) l.number (rest l.width l.words (l.run.first + l.run.count) l.run.start l.number)
