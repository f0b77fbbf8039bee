-- The counts behind the five others, one after another.
use Rattle.std.proofs.Common.{arith, sym, ◌∙◌}
use Rattle.words.specs.Rest.{laid-rest, laid_none}
use Rattle.ducatfeather.specs.Laws.{laid-behind_five}
use Rattle.ducatfeather.proofs.numbers.Goals as goal

pub loop-i-preserved : goal.loop-i-preserved
loop-i-preserved c = sym (laid-rest _ _ _ _ (omega arith)) ∙ c.loop-i.invariant

pub returns : goal.returns
returns c = sym (laid_none _ c.args.a.counts 5 c.loop-i.i (omega arith)) ∙ c.loop-i.invariant ∙ laid-behind_five _ _ _ _ _ _ _ (omega arith)
