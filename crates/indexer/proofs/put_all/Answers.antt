-- What is stored, with what is left behind it, is the whole.
use Rattle.indexer.specs.Left.{numbers-next, numbers-none, storing-room, storing-more, storing-none}
use Rattle.indexer.proofs.put_all.Goals as goal

pub put-to-requires : goal.put-to-requires
put-to-requires c = storing-room c.loop-number.invariant (numbers-next c.args.numbers.now _ c.loop-number-test.true) c.requires

pub loop-number-preserved : goal.loop-number-preserved
loop-number-preserved c =
    storing-more c.loop-number.invariant (numbers-next c.args.numbers.now _ c.loop-number-test.true) c.put-to.ensures.bytes_after c.put-to.ensures.value c.put-to.auto.bytes

pub returns : goal.returns
returns c =
    let n = storing-none c.loop-number.invariant (numbers-none c.args.numbers.now _ c.loop-number-test.false) in record { value = n.0; bytes_after = n.1 }
