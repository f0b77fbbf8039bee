-- The invariant: what is left decides. The places so far, with those of the elements that are left, are those of all.
use mathlib.Core.Path.{sym, ◌∙◌}
use Prim.Native.Nat.{◌-◌, ◌<◌}
use native.Mathlib.Omega.{arith}
use Rattle.blob.proofs.Laws.{one_on}
use Rattle.element.specs.Elements.{from-described, next-described, from-fine}
use Rattle.element.specs.Places.{placed-more, placed-none}
use Rattle.element.proofs.place_tables.Goals as goal

pub loop-i-preserved : goal.loop-i-preserved
loop-i-preserved c =
    let inv = c.loop-i.invariant in
    let more : 0 < c.args.n - c.loop-i.i = omega arith in
    let found = c.descriptor_of-d.ensures in
    let e = one_on c.args.n c.loop-i.i c.args.start 8 in
    rw (← e.0, ← e.1) (from-fine _ _ _ more _ found inv.0, inv.1 ∙ placed-more _ _ _ more _ found inv.0 _ _ c.number_of-kind.ensures.0)

pub returns : goal.returns
returns c = sym (c.loop-i.invariant.1 ∙ placed-none _ _ _ _ (omega arith))

pub descriptor_of-d-requires-clause-b_value : goal.descriptor_of-d-requires-clause-b_value
descriptor_of-d-requires-clause-b_value c = next-described _ _ _ (omega arith) (from-described _ _ _ c.loop-i.invariant.0)
