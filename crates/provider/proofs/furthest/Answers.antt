-- The invariant: the furthest so far, with that of the descriptors that are left, is that of all.
use mathlib.Core.Path.{sym, ◌∙◌}
use Prim.Native.Nat.{◌+◌, ◌-◌, ◌*◌}
use native.Mathlib.Omega.{arith}
use Rattle.blob.proofs.Laws.{one_on}
use Rattle.provider.specs.Wevt.{furthest-more, furthest-none}
use Rattle.provider.proofs.furthest.Goals as goal
use Rattle.provider.proofs.furthest.Goals.{then-most-place, else-most-place}

pub returns : goal.returns
returns c = sym (c.loop-i.invariant ∙ furthest-none _ _ _ _ (omega arith))

pub loop-i-preserved : goal.loop-i-preserved
loop-i-preserved c =
    let more = furthest-more c.args.b.now (c.args.n - c.loop-i.i) (c.args.start + 8 * c.loop-i.i) (omega arith) in
    let e = one_on c.args.n c.loop-i.i c.args.start 8 in
    rw (← e.0, ← e.1) (elim c.if-most-place.branch [ then-most-place w ↦ omega arith | else-most-place w ↦ omega arith ])
