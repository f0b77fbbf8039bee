-- The invariant: what is left decides.
use Prim.Native.Nat.{◌+◌}
use mathlib.Core.Path.{◌≡◌}
use Rattle.format.specs.Area.{TEMPLATES, width}
use Rattle.format.specs.Lookup.{all_of}
use Rattle.lists.specs.Entries.{rest}
use Rattle.lists.specs.Found.{entries}
use Rattle.lists.proofs.all_of.Given as goal

abbrev pub invariant-loop-number : goal.invariant-loop-number
invariant-loop-number l =
    all_of l.provider (entries (width TEMPLATES) l.templates l.words)
    ≡ all_of l.provider (rest (width TEMPLATES) l.words (l.templates.first + l.templates.count) l.templates.start l.number)
