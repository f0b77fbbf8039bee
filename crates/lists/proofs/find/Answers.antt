-- The invariant: what is left decides.
use mathlib.Core.Path.{ap, sym, ◌∙◌}
use Rattle.format.specs.Lookup.{position}
use Rattle.lists.specs.Found.{found, has}
use Rattle.lists.specs.Search.{position_here, position-behind, position-none, run-rest}
use Rattle.lists.proofs.find.Goals as goal

pub loop-number-init : goal.loop-number-init
loop-number-init c = ap (position (has c.args.from c.args.key.now) c.args.run.first) (sym (run-rest _ c.args.run c.args.words.now))

pub returns-then-same : goal.returns-then-same
returns-then-same c =
    let k = rw (← c.width-width.ensures.0) at c.requires.key_in_entry in
    rw (← c.width-width.ensures.0)
    (sym (ap found (c.loop-number.invariant ∙ position_here c.args.words.now c.args.key.now c.width-width.result c.args.from k _ _ _ _ c.loop-number-test.true (sym c.if-same.true ∙ c.same.ensures))))

pub loop-number-preserved : goal.loop-number-preserved
loop-number-preserved c =
    let k = rw (← c.width-width.ensures.0) at c.requires.key_in_entry in
    c.loop-number.invariant ∙ position-behind c.args.words.now c.args.key.now c.width-width.result c.args.from k _ _ _ _ c.loop-number-test.true (sym c.if-same.false ∙ c.same.ensures)

pub returns : goal.returns
returns c =
    rw (← c.width-width.ensures.0)
    (sym (ap found (c.loop-number.invariant ∙ position-none (has c.args.from c.args.key.now) c.args.words.now c.width-width.result _ _ _ _ c.loop-number-test.false)))
