-- The invariant: what is left decides. The places so far, with those of the elements that are left, are those of all.
use Rattle.std.specs.Prelude.{Ok}
use Prim.Native.Nat.{◌+◌, ◌-◌, ◌*◌}
use mathlib.Core.Path.{◌≡◌}
use Rattle.blob.specs.Reading.{run, verdict, values}
use Rattle.format.specs.Provider.{elements_from}
use Rattle.element.specs.Places.{placed}
use Rattle.element.proofs.place_tables.Given as goal

abbrev pub invariant-loop-i : goal.invariant-loop-i
invariant-loop-i l =
    (verdict (run (elements_from (l.n - l.i) (l.start + 8 * l.i)) l.b) ≡ Ok tt)
    × (placed l.initial.places (values (run (elements_from l.n l.start) l.b)) ≡ placed l.places (values (run (elements_from (l.n - l.i) (l.start + 8 * l.i)) l.b)))
