-- The invariant: what is left decides. The rest, laid from here, makes the area what it shall be, and the rest is fine.
use Rattle.std.specs.Prelude.{Ok}
use Prim.Native.Nat.{◌+◌, ◌-◌, ◌*◌, ◌≤◌}
use mathlib.Core.Path.{◌≡◌}
use Rattle.blob.specs.Reading.{run, many, verdict, values}
use Rattle.blob.specs.Laid.{laid, flat}
use Rattle.blob.proofs.Laws.{rest}
use Rattle.format.specs.Area.{ITEMS, width}
use Rattle.format.specs.Definition.{step}
use Rattle.format.specs.Item.{item_at, items_from}
use Rattle.format.specs.Lists.{item_words}
use Rattle.item.proofs.fill.Given as goal

abbrev pub invariant-loop-i : goal.invariant-loop-i
invariant-loop-i l =
    (l.at + 20 * l.n ≤ l.end)
    × (verdict (run (many (item_at l.temp l.end) (step 20) (l.n - l.i) (l.at + 20 * l.i)) l.b) ≡ Ok tt)
    × (laid l.initial.area l.start (flat (item_words l.number) (values (run (items_from l.temp l.end l.n l.offset) l.b)))
    ≡ rest (item_at l.temp l.end) (step 20) (item_words l.number) l.b l.area (l.n - l.i) (l.at + 20 * l.i) (l.start + width ITEMS * l.i))
