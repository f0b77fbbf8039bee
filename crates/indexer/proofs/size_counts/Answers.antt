-- What is counted, with what is left, is the whole.
use mathlib.Core.Path.{ap}
use native.Mathlib.Omega.{arith}
use lib.ListN.{length}
use Rattle.indexer.specs.Left.{bytes-more, counts-all, counts-next, counts-none, counts-short}
use Rattle.indexer.proofs.size_counts.Goals as goal

pub loop-i-init : goal.loop-i-init
loop-i-init c = omega (arith, ap length (counts-all c.args.words.now c.args.count c.args.start))

pub overflow_add-n : goal.overflow_add-n
overflow_add-n c =
    let m = bytes-more (counts-next c.args.words.now c.args.count c.args.start c.loop-i.i c.loop-i-test.true) in
    omega (arith, m, counts-short c.args.words.now c.args.count c.args.start)

pub loop-i-preserved : goal.loop-i-preserved
loop-i-preserved c =
    let m = bytes-more (counts-next c.args.words.now c.args.count c.args.start c.loop-i.i c.loop-i-test.true) in
    omega (arith, m)

pub returns : goal.returns
returns c = omega (arith, ap length (counts-none c.args.words.now c.args.count c.args.start c.loop-i.i c.loop-i-test.false))
