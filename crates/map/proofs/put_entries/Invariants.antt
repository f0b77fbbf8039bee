-- The invariant: what is left decides. The entries that are left, laid from here, make the area what it shall be.
use Prim.Native.Nat.{◌+◌, ◌-◌, ◌*◌}
use mathlib.Core.Path.{◌≡◌}
use Rattle.blob.proofs.Laws.{rest}
use Rattle.format.specs.Area.{ENTRIES, width}
use Rattle.format.specs.Definition.{step}
use Rattle.format.specs.Map.{entry_at}
use Rattle.format.specs.Lists.{map_entry_words}
use Rattle.map.proofs.put_entries.Given as goal

abbrev pub invariant-loop-i : goal.invariant-loop-i
invariant-loop-i l =
    rest entry_at (step 8) map_entry_words l.b l.initial.area l.n l.start l.from ≡ rest entry_at (step 8) map_entry_words l.b l.area (l.n - l.i) (l.start + 8 * l.i) (l.from + width ENTRIES * l.i)
