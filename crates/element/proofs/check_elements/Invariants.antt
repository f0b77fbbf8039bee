-- What is left decides: the answer for the elements that are left, with the counts so far, is that for all, and their descriptors are
-- fine.
use Prim.Native.Nat.{◌+◌, ◌-◌, ◌*◌, ◌≤◌}
use mathlib.Core.Path.{◌≡◌}
use Rattle.std.specs.Prelude.{Ok}
use Rattle.blob.specs.Reading.{run, many, verdict}
use Rattle.format.specs.Definition.{step}
use Rattle.format.specs.Provider.{descriptor_at, elements_from}
use Rattle.element.specs.Counted.{elements_read, read_from}
use Rattle.element.proofs.check_elements.Given as goal

abbrev pub invariant-loop-i : goal.invariant-loop-i
invariant-loop-i l =
    (l.unknown ≤ l.i)
    × (verdict (run (many descriptor_at (step 8) (l.n - l.i) (l.start + 8 * l.i)) l.b) ≡ Ok tt)
    × (elements_read (run (elements_from l.n l.start) l.b) ≡ read_from l.unknown l.entries l.places (run (elements_from (l.n - l.i) (l.start + 8 * l.i)) l.b))
