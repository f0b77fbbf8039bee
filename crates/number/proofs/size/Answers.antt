-- What is left of the form, with what was counted before it, is the whole form.
use Rattle.std.proofs.Common.{arith}
use Rattle.number.proofs.Forms.{sizing_all, sizing_ends, sizing_goes, form-short}
use Rattle.number.proofs.size.Goals as goal

pub loop-rest-init : goal.loop-rest-init
loop-rest-init c = sizing_all _ (omega arith)

pub overflow_add-n : goal.overflow_add-n
overflow_add-n c = let s = form-short 10 c.args.number in omega (arith, s)

pub loop-rest-preserved : goal.loop-rest-preserved
loop-rest-preserved c = sizing_goes c.loop-rest.invariant c.loop-rest-test.true

pub returns : goal.returns
returns c = sizing_ends c.loop-rest.invariant (omega arith)
