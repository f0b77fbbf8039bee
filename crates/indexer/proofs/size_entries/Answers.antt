-- What is counted, with what is left, is the whole.
use mathlib.Core.Path.{ap}
use native.Mathlib.Omega.{arith}
use lib.ListN.{length}
use Rattle.indexer.specs.Listed.{formed, listed_at}
use Rattle.indexer.specs.Left.{bytes-more, formed-short, listed_all, listed_next, listed-count, listed-short, listed-none, formed-none}
use Rattle.indexer.proofs.size_entries.Goals as goal

pub loop-i-init : goal.loop-i-init
loop-i-init c =
    let e = listed_all c.args.owners.now c.args.words.now c.args.count c.args.start in (omega (arith, ap length e), omega (arith, ap (λ fs. length (formed fs)) e))

pub overflow_add-entries : goal.overflow_add-entries
overflow_add-entries c =
    omega (arith, listed-count c.args.owners.now c.args.words.now c.args.count c.args.start c.loop-i.i c.loop-i-test.true, listed-short c.args.owners.now c.args.words.now c.args.count c.args.start)

pub overflow_add-bytes : goal.overflow_add-bytes
overflow_add-bytes c =
    let m = bytes-more (listed_next c.args.owners.now c.args.words.now c.args.count c.args.start c.loop-i.i c.loop-i-test.true) in
    omega (arith, m, formed-short (listed_at c.args.owners.now c.args.words.now 0 c.args.count c.args.start), listed-short c.args.owners.now c.args.words.now c.args.count c.args.start)

pub loop-i-preserved : goal.loop-i-preserved
loop-i-preserved c =
    let m = bytes-more (listed_next c.args.owners.now c.args.words.now c.args.count c.args.start c.loop-i.i c.loop-i-test.true) in
    (omega (arith, listed-count c.args.owners.now c.args.words.now c.args.count c.args.start c.loop-i.i c.loop-i-test.true), omega (arith, m))

pub returns : goal.returns
returns c =
    record {
      counted = omega (arith, ap length (listed-none c.args.owners.now c.args.words.now c.args.count c.args.start c.loop-i.i c.loop-i-test.false));
      sized = omega (arith, ap length (formed-none c.args.owners.now c.args.words.now c.args.count c.args.start c.loop-i.i c.loop-i-test.false));
    }
