-- The invariant: the furthest so far, with that of the descriptors that are left, is that of all.
use Prim.Native.Nat.{◌+◌, ◌-◌, ◌*◌, max}
use mathlib.Core.Path.{◌≡◌}
use Rattle.provider.specs.Wevt.{furthest}
use Rattle.provider.proofs.furthest.Given as goal

abbrev pub invariant-loop-i : goal.invariant-loop-i
invariant-loop-i l = furthest l.b l.n l.start ≡ max l.most (furthest l.b (l.n - l.i) (l.start + 8 * l.i))
