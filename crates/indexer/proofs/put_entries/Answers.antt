-- What is stored, with what is left behind it, is the whole.
use mathlib.Core.Path.{ap}
use Rattle.indexer.specs.Listed.{formed}
use Rattle.indexer.specs.Left.{listed_all, listed_next, formed-none, storing-all, storing-room, storing-more, storing-none}
use Rattle.indexer.proofs.put_entries.Goals as goal

pub loop-i-init : goal.loop-i-init
loop-i-init c = storing-all _ _ (ap formed (listed_all c.args.owners.now c.args.words.now _ _))

pub put_entry-to-requires-clause-room : goal.put_entry-to-requires-clause-room
put_entry-to-requires-clause-room c =
    storing-room c.loop-i.invariant (listed_next c.args.owners.now c.args.words.now _ _ _ c.loop-i-test.true) c.requires.room

pub loop-i-preserved : goal.loop-i-preserved
loop-i-preserved c =
    storing-more c.loop-i.invariant (listed_next c.args.owners.now c.args.words.now _ _ _ c.loop-i-test.true) c.put_entry-to.ensures.bytes_after c.put_entry-to.ensures.value c.put_entry-to.auto.bytes

pub returns : goal.returns
returns c = (storing-none c.loop-i.invariant (formed-none c.args.owners.now c.args.words.now _ _ _ c.loop-i-test.false)).1
