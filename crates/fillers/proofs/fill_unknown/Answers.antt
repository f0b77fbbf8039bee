-- The invariant: what is left decides. The rest, laid from here, makes the area what it shall be, and ends where it shall.
use mathlib.Core.Path.{◌≡◌, ap, sym, ◌∙◌}
use mathlib.Core.List.{List, []}
use Prim.Native.Nat.{◌+◌, ◌-◌, ◌*◌, ◌<◌}
use native.Mathlib.Omega.{arith}
use Rattle.blob.proofs.Laws.{one_on}
use lib.ListN.{length}
use Rattle.blob.specs.Reading.{run, values}
use Rattle.blob.specs.Laid.{laid, flat}
use Rattle.format.specs.Provider.{Element, elements_from}
use Rattle.format.specs.Lists.{unknowns, unknown_words}
use Rattle.element.specs.Elements.{from-none, from-described, next-described, from-fine}
use Rattle.fillers.specs.Unknown.{unread, unknown-room, unknown-next}
use Rattle.fillers.proofs.fill_unknown.Goals as goal

pub descriptor_of-d-requires-clause-b_value : goal.descriptor_of-d-requires-clause-b_value
descriptor_of-d-requires-clause-b_value c = next-described _ _ _ (omega arith) (from-described _ _ _ c.loop-i.invariant.0)

pub put_unknown-to-requires : goal.put_unknown-to-requires
put_unknown-to-requires c = λ k.
    let r = unknown-room _ _ _ (omega arith) _ c.descriptor_of-d.ensures c.loop-i.invariant.0 k in
    (r.0, omega (arith, r.1, c.loop-i.invariant.1.0, c.requires.b_in_bounds))

pub loop-i-preserved : goal.loop-i-preserved
loop-i-preserved c =
    let inv = c.loop-i.invariant in
    let more : 0 < c.args.n - c.loop-i.i = omega arith in
    let found = c.descriptor_of-d.ensures in
    let x = unknown-next _ _ _ more _ found inv.0 _ _ _ _ _ c.put_unknown-to.ensures.area_after c.put_unknown-to.ensures.value in
    let e = one_on c.args.n c.loop-i.i c.args.start 8 in
    rw (← e.0, ← e.1) (from-fine _ _ _ more _ found inv.0, (inv.1.0 ∙ x.0, inv.1.1 ∙ x.1))

pub returns : goal.returns
unfolding laid flat unknowns
returns c =
    let left = c.args.n - c.loop-i.i in
    let at = c.args.start + 8 * c.loop-i.i in
    let e : values (run (elements_from left at) c.args.b.now) ≡ [] = ap values (from-none c.args.b.now left at (omega arith)) in
    let n : length (unread c.args.b.now left at) ≡ 0 = ap (λ (es : List Element). length (unknowns es)) e in
    record {
      value = omega (arith, c.loop-i.invariant.1.0, n);
      area_after = sym (c.loop-i.invariant.1.1 ∙ ap (λ (es : List Element). laid c.loop-i.area c.loop-i.to (flat (unknown_words c.args.number) (unknowns es))) e);
    }
