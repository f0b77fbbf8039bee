-- What is stored, with what is left behind it, is the whole.
use Rattle.indexer.specs.Left.{counts-all, counts-next, counts-none, storing-all, storing-room, storing-more, storing-none}
use Rattle.indexer.proofs.put_counts.Goals as goal

pub loop-i-init : goal.loop-i-init
loop-i-init c = storing-all _ _ (counts-all c.args.words.now _ _)

pub put-to-requires : goal.put-to-requires
put-to-requires c = storing-room c.loop-i.invariant (counts-next c.args.words.now _ _ _ c.loop-i-test.true) c.requires.room

pub loop-i-preserved : goal.loop-i-preserved
loop-i-preserved c =
    storing-more c.loop-i.invariant (counts-next c.args.words.now _ _ _ c.loop-i-test.true) c.put-to.ensures.bytes_after c.put-to.ensures.value c.put-to.auto.bytes

pub returns : goal.returns
returns c =
    let n = storing-none c.loop-i.invariant (counts-none c.args.words.now _ _ _ c.loop-i-test.false) in record { value = n.0; bytes_after = n.1 }
