-- What is counted, with what is left, is the whole.
use mathlib.Core.Path.{ap}
use native.Mathlib.Omega.{arith}
use lib.ListN.{length}
use Rattle.indexer.specs.Left.{bytes-more, numbers-next, numbers-none, forms_short}
use Rattle.indexer.proofs.size_all.Goals as goal

pub overflow_add-n : goal.overflow_add-n
overflow_add-n c =
    let m = bytes-more (numbers-next c.args.numbers.now c.loop-number.number-index c.loop-number-test.true) in
    omega (arith, m, forms_short c.args.numbers.now)

pub loop-number-preserved : goal.loop-number-preserved
loop-number-preserved c =
    let m = bytes-more (numbers-next c.args.numbers.now c.loop-number.number-index c.loop-number-test.true) in
    omega (arith, m)

pub returns : goal.returns
returns c = omega (arith, ap length (numbers-none c.args.numbers.now c.loop-number.number-index c.loop-number-test.false))
