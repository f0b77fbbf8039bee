-- A call that misfits touches nothing.
use Rattle.std.proofs.Common.{eq-eqb, ne_eqb}
use Rattle.format.specs.Call.{called}
use Rattle.ducatfeather.specs.Laws.{misfit-keeps}
use Rattle.ducatfeather.proofs.read.Goals as goal

pub returns-then-capacities-ne-AREAS-clause-words_after : goal.returns-then-capacities-ne-AREAS-clause-words_after
unfolding called
returns-then-capacities-ne-AREAS-clause-words_after c = rw (ne_eqb _ _ c.if-capacities-ne-AREAS.true) (misfit-keeps _ _ c.args.blob.now)

pub returns-then-n-ne-NUMBERS-clause-words_after : goal.returns-then-n-ne-NUMBERS-clause-words_after
unfolding called
returns-then-n-ne-NUMBERS-clause-words_after c =
    rw (eq-eqb _ _ c.if-capacities-ne-AREAS.false, ne_eqb _ _ c.if-n-ne-NUMBERS.true) (misfit-keeps _ _ c.args.blob.now)
