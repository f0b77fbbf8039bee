-- The invariant: those that are left, laid from here, make the list what it shall be.
use Prim.Native.Nat.{◌*◌}
use mathlib.Core.Path.{ap, sym, ◌∙◌, subst}
use lib.ListN.{length}
use Rattle.blob.specs.Laid.{laid}
use Rattle.format.specs.Area.{TEMPLATES, place}
use Rattle.format.specs.Entry.{GUID}
use Rattle.lists.specs.Found.{run_of}
use Rattle.lookup.specs.Given.{guid_of, stepped, onward, guids_more, guids_none, guid-length}
use native.Mathlib.Omega.{arith}
use Rattle.lookup.proofs.fill.Goals as goal

pub returns : goal.returns
returns c =
    let l = c.args.together.now.fitted.lists in
    sym (c.loop-i.invariant.3 ∙ guids_none (guid_of l.words.now (run_of l.capacities l.counts (place TEMPLATES))) _ _ _ (omega (arith, c.loop-i.invariant.2.0, c.loop-i-test.false)))

pub loop-i-preserved : goal.loop-i-preserved
loop-i-preserved c =
    let l = c.args.together.now.fitted.lists in
    let list = run_of l.capacities l.counts (place TEMPLATES) in
    let h = subst (onward l.words.now list) c.in-Some.is c.advance.ensures.onward in
    let e = c.advance.ensures.walk_after ∙ ap (stepped l.words.now l.capacities l.counts c.args.guid.now c.args.key.now _) c.in-Some.is in
    let g = guid-length l.words.now list _ h.1.1.0 h.0 in
    let u = c.put.ensures ∙ ap (laid c.loop-i.guids (GUID * c.loop-i.i)) (c.guid_of.ensures ∙ ap (λ r. guid_of l.words.now r c.in-Some.t) c.run_of-list.ensures) in (
      h.1,
      c.put.auto.area ∙ c.loop-i.invariant.1,
      (omega (arith, c.loop-i.invariant.2, ap length e), omega (arith, c.loop-i.invariant.2, c.put.auto.area)),
      c.loop-i.invariant.3 ∙ guids_more (guid_of l.words.now list) _ _ _ _ _ _ _ e u g (omega arith),
    )
