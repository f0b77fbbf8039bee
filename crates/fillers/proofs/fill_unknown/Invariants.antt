-- The invariant: what is left decides. The rest, laid from here, makes the area what it shall be, and ends where it shall.
use Rattle.std.specs.Prelude.{Ok}
use Prim.Native.Nat.{◌+◌, ◌-◌, ◌*◌}
use mathlib.Core.Path.{◌≡◌}
use Rattle.blob.specs.Reading.{run, verdict}
use Rattle.format.specs.Provider.{elements_from}
use Rattle.fillers.specs.Unknown.{unread, Rest}
use Rattle.fillers.proofs.fill_unknown.Given as goal

abbrev pub invariant-loop-i : goal.invariant-loop-i
invariant-loop-i l =
    (verdict (run (elements_from (l.n - l.i) (l.start + 8 * l.i)) l.b) ≡ Ok tt)
    × Rest l.number (unread l.b l.n l.start) (unread l.b (l.n - l.i) (l.start + 8 * l.i)) l.initial.area l.area 0 l.to
