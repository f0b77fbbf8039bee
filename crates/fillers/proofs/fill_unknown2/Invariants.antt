-- The invariant: what is left decides. A word is never refused, so the rest is fine.
use Prim.Native.Nat.{◌+◌, ◌-◌, ◌*◌}
use mathlib.Core.Path.{◌≡◌}
use Rattle.blob.specs.Reading.{number}
use Rattle.blob.proofs.Laws.{rest}
use Rattle.format.specs.Area.{UNKNOWN2, width}
use Rattle.format.specs.Definition.{step}
use Rattle.format.specs.Lists.{unknown2_words}
use Rattle.fillers.proofs.fill_unknown2.Given as goal

abbrev pub invariant-loop-i : goal.invariant-loop-i
invariant-loop-i l =
    rest (number 4) (step 4) unknown2_words l.b l.initial.area l.n l.start 0 ≡ rest (number 4) (step 4) unknown2_words l.b l.area (l.n - l.i) (l.start + 4 * l.i) (width UNKNOWN2 * l.i)
