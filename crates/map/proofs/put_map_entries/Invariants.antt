-- The invariant: what is left decides. The entries of the maps that are left, laid from here, make the area what it shall be.
use Rattle.std.specs.Prelude.{Ok}
use Prim.Native.Nat.{◌+◌, ◌-◌, ◌*◌}
use mathlib.Core.Path.{◌≡◌}
use Rattle.blob.specs.Laid.{laid}
use Rattle.blob.specs.Reading.{run, verdict, values}
use Rattle.format.specs.Area.{ENTRIES, width}
use Rattle.format.specs.Steps.Needs.{entry_count}
use Rattle.map.specs.Listed.{listed}
use Rattle.map.specs.Next.{unread, entries_words}
use Rattle.map.proofs.put_map_entries.Given as goal

abbrev pub invariant-loop-i : goal.invariant-loop-i
invariant-loop-i l =
    (l.to + width ENTRIES * entry_count (values (unread l.end l.start l.first l.b (l.n - l.i) (l.start + 4 * l.i))) ≡ width ENTRIES * entry_count (values (run (listed l.end l.start l.n) l.b)))
    × (verdict (unread l.end l.start l.first l.b (l.n - l.i) (l.start + 4 * l.i)) ≡ Ok tt)
    × (laid l.initial.area 0 (entries_words (values (run (listed l.end l.start l.n) l.b))) ≡ laid l.area l.to (entries_words (values (unread l.end l.start l.first l.b (l.n - l.i) (l.start + 4 * l.i)))))
