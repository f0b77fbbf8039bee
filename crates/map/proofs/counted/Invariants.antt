-- What is left decides: the answer for the maps that are left, with the entries so far, is that for all.
use Prim.Native.Nat.{◌+◌, ◌-◌, ◌*◌, ◌≤◌}
use mathlib.Core.Path.{◌≡◌}
use Rattle.blob.specs.Reading.{run}
use Rattle.format.specs.Steps.Needs.{maps_read}
use Rattle.map.specs.Listed.{listed}
use Rattle.map.specs.Next.{unread, counted_from}
use Rattle.map.proofs.counted.Given as goal

abbrev pub invariant-loop-i : goal.invariant-loop-i
invariant-loop-i l =
    (l.entries ≤ 65537)
    × (maps_read (run (listed l.end l.start l.n) l.b) ≡ counted_from l.entries (unread l.end l.start l.first l.b (l.n - l.i) (l.start + 4 * l.i)))
