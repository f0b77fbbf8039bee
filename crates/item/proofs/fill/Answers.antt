-- The invariant: what is left decides. The rest, laid from here, makes the area what it shall be, and the rest is fine.
use mathlib.Core.Path.{ap, sym, ◌∙◌}
use native.Mathlib.Omega.{arith}
use native.Mathlib.Numerals.{unary_clauses}
use Rattle.blob.specs.Reading.{verdict, values}
use Rattle.blob.specs.Laid.{laid, flat}
use Rattle.blob.proofs.Laws.{fine-value, many-first, many_next, rest-next, rest-none}
use Rattle.format.specs.Definition.{step}
use Rattle.format.specs.Lists.{item_words}
use Rattle.item.specs.Items.{items-row, items-fit}
use Rattle.item.proofs.fill.Goals as goal

pub loop-i-init : goal.loop-i-init
loop-i-init c =
    let f = items-fit _ _ _ _ _ c.requires.b_value in
    let e = c.items_start-at.ensures in
    let r = items-row c.args.temp c.args.end c.args.n c.args.offset c.args.b.now f in (
      omega (arith, e, f),
      simp (e, unary_clauses) (sym (ap verdict r) ∙ c.requires.b_value),
      simp (e, unary_clauses) (ap (λ x. laid c.args.area.now c.args.start (flat (item_words c.args.number) (values x))) r),
    )

pub put-requires-clause-b_value : goal.put-requires-clause-b_value
put-requires-clause-b_value c = many-first _ (step 20) _ _ _ (omega arith) c.loop-i.invariant.1

pub loop-i-preserved : goal.loop-i-preserved
loop-i-preserved c =
    let inv = c.loop-i.invariant in
    let f = fine-value _ (many-first _ (step 20) _ _ _ (omega arith) inv.1) in (
      inv.0,
      sym (many_next _ (step 20) _ _ _ _ _ _ (omega arith) f.1 (omega arith)) ∙ inv.1,
      inv.2 ∙ rest-next _ (step 20) (item_words _) _ _ _ _ _ _ _ _ _ _ (c.put.ensures f.0 f.1) (omega arith) f.1 inv.1 (omega arith) (omega arith),
    )

pub returns : goal.returns
returns c = sym (c.loop-i.invariant.2 ∙ rest-none _ (step 20) (item_words _) _ _ _ _ _ (omega arith))
