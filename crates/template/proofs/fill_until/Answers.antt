-- The invariant: what is left decides. The rest, laid from here, makes the area what it shall be, and the rest is fine.
use mathlib.Core.Path.{refl, sym, ◌∙◌}
use native.Mathlib.Omega.{arith}
use borrow.Author.Rules.{rules}
use Rattle.blob.proofs.Laws.{many_more, rest_more, rest-none}
use Rattle.format.specs.Template.{next}
use Rattle.format.specs.Lists.{template_words}
use Rattle.template.specs.Templates.{first_fine, turns-again, turns_next}
use Rattle.template.proofs.fill_until.Goals as goal

pub word-size-requires : goal.word-size-requires
word-size-requires c = let f = (first_fine _ _ _ _ _ refl c.loop-left-test.true c.loop-left.invariant.3).stands in omega arith

pub put-requires : goal.put-requires
put-requires c =
    let f = (first_fine _ _ _ _ _ (sym c.if-size-same.true ∙ c.word-size.ensures) c.loop-left-test.true c.loop-left.invariant.3).stands in
    search rules

pub loop-left-smaller-then-size-same : goal.loop-left-smaller-then-size-same
loop-left-smaller-then-size-same c = turns_next _ _ _ _ _ _ c.loop-left-test.true

pub loop-left-preserved-then-size-same : goal.loop-left-preserved-then-size-same
loop-left-preserved-then-size-same c =
    let f = first_fine _ _ _ _ _ (sym c.if-size-same.true ∙ c.word-size.ensures) c.loop-left-test.true c.loop-left.invariant.3 in (
      f.stands.ends,
      omega (arith, c.put.auto.area),
      c.put.auto.area ∙ c.loop-left.invariant.2,
      sym (many_more _ next _ _ _ _ c.loop-left-test.true f.found) ∙ c.loop-left.invariant.3,
      c.loop-left.invariant.4 ∙ rest_more _ next (template_words _) _ _ _ _ _ _ _ (c.put.ensures f.items) c.loop-left-test.true f.found c.loop-left.invariant.3,
    )

pub loop-left-smaller : goal.loop-left-smaller
loop-left-smaller c = turns-again _ _ _ _ _ c.word-size.ensures c.if-size-same.false

pub returns : goal.returns
returns c = sym (c.loop-left.invariant.4 ∙ rest-none _ next (template_words _) _ _ _ _ _ c.loop-left-test.false)
