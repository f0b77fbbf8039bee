-- The invariant: what is left decides. The maps that are left, laid from here, make the area what it shall be, and are fine.
use Rattle.std.specs.Prelude.{Ok}
use Prim.Native.Nat.{◌+◌, ◌-◌, ◌*◌}
use mathlib.Core.Path.{◌≡◌}
use Rattle.blob.specs.Laid.{laid}
use Rattle.blob.specs.Reading.{run, verdict, values}
use Rattle.format.specs.Area.{MAPS, width}
use Rattle.format.specs.Steps.Needs.{entry_count}
use Rattle.map.specs.Listed.{listed}
use Rattle.map.specs.Next.{unread, maps_words}
use Rattle.map.proofs.put_maps.Given as goal

abbrev pub invariant-loop-i : goal.invariant-loop-i
invariant-loop-i l =
    (verdict (unread l.end l.start l.first l.b (l.n - l.i) (l.start + 4 * l.i)) ≡ Ok tt)
    × (l.entries + entry_count (values (unread l.end l.start l.first l.b (l.n - l.i) (l.start + 4 * l.i))) ≡ l.before + entry_count (values (run (listed l.end l.start l.n) l.b)))
    × (laid l.initial.area 0 (maps_words l.before (values (run (listed l.end l.start l.n) l.b)))
    ≡ laid l.area (width MAPS * l.i) (maps_words l.entries (values (unread l.end l.start l.first l.b (l.n - l.i) (l.start + 4 * l.i)))))
