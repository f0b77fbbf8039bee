-- The invariant: what is left decides.
use mathlib.Core.Path.{ap, sym, ◌∙◌}
use Rattle.format.specs.Area.{EVENTS, width}
use Rattle.lists.specs.Entries.{rest_all}
use Rattle.lists.specs.Search.{every-next, every_stop, every_all}
use Rattle.indexer.specs.Listed.{all_fit}
use Rattle.indexer.proofs.all_fit.Goals as goal

pub loop-i-init : goal.loop-i-init
loop-i-init c = ap all_fit (sym (rest_all (width EVENTS) c.args.words.now _ _))

pub returns-then-not-fields_fit : goal.returns-then-not-fields_fit
returns-then-not-fields_fit c =
    sym (c.loop-i.invariant ∙ every_stop _ c.args.words.now (width EVENTS) _ _ _ c.loop-i-test.true (sym c.fields_fit.ensures ∙ c.if-not-fields_fit.true))

pub loop-i-preserved : goal.loop-i-preserved
loop-i-preserved c =
    c.loop-i.invariant ∙ every-next _ c.args.words.now (width EVENTS) _ _ _ c.loop-i-test.true (sym c.fields_fit.ensures ∙ c.if-not-fields_fit.false)

pub returns : goal.returns
returns c = sym (c.loop-i.invariant ∙ every_all _ c.args.words.now (width EVENTS) _ _ _ c.loop-i-test.false)
