-- The invariant: what is left decides.
use mathlib.Core.Path.{sym, ◌∙◌}
use Rattle.lists.specs.Search.{alike-equal, alike-other, alike-none}
use Rattle.lists.proofs.same.Goals as goal

pub returns-then-words-at : goal.returns-then-words-at
returns-then-words-at c =
    sym (c.loop-i.invariant ∙ alike-other c.args.words.now c.args.key.now c.args.at _ c.requires c.loop-i-test.true c.if-words-at.true)

pub loop-i-preserved : goal.loop-i-preserved
loop-i-preserved c =
    c.loop-i.invariant ∙ alike-equal c.args.words.now c.args.key.now c.args.at _ c.requires c.loop-i-test.true c.if-words-at.false

pub returns : goal.returns
returns c = sym (c.loop-i.invariant ∙ alike-none c.args.words.now c.args.key.now c.args.at _ c.loop-i-test.false)
