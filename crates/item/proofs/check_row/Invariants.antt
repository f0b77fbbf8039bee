-- What is left decides: the verdict of the items that are left is that of all.
use Prim.Native.Nat.{◌+◌, ◌-◌, ◌*◌}
use mathlib.Core.Path.{◌≡◌}
use Rattle.blob.specs.Reading.{run, many, verdict}
use Rattle.format.specs.Definition.{step}
use Rattle.format.specs.Item.{item_at}
use Rattle.item.proofs.check_row.Given as goal

abbrev pub invariant-loop-i : goal.invariant-loop-i
invariant-loop-i l =
    verdict (run (many (item_at l.temp l.end) (step 20) l.n l.start) l.b) ≡ verdict (run (many (item_at l.temp l.end) (step 20) (l.n - l.i) (l.start + 20 * l.i)) l.b)
