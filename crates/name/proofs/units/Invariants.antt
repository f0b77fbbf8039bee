-- The invariant of both loops: what is left decides. The text that is left, with the units so far, is the text of all.
use Prim.Native.Nat.{◌+◌, ◌-◌, ◌*◌, ◌≤◌}
use mathlib.Core.Bool.{false}
use mathlib.Core.Path.{◌≡◌}
use lib.ListN.{length}
use Rattle.blob.specs.Reading.{run}
use Rattle.format.specs.Name.{text}
use Rattle.name.proofs.units.Given as goal

abbrev pub invariant-loop-at : goal.invariant-loop-at
invariant-loop-at l =
    (l.at + 2 * l.left ≤ length l.b)
    × (l.left ≤ l.n)
    × (run (text l.field l.offset l.n (l.offset + 4) 0 false) l.b ≡ run (text l.field l.offset l.left l.at (l.n - l.left) false) l.b)

abbrev pub decreases-loop-at : goal.decreases-loop-at
decreases-loop-at l = l.left

abbrev pub invariant-loop-left : goal.invariant-loop-left
invariant-loop-left l =
    (l.at + 2 * l.left ≤ length l.b)
    × (l.left ≤ l.n)
    × (run (text l.field l.offset l.n (l.offset + 4) 0 false) l.b ≡ run (text l.field l.offset l.left l.at (l.n - l.left) false) l.b)

abbrev pub decreases-loop-left : goal.decreases-loop-left
decreases-loop-left l = l.left
