-- By the owner.
use mathlib.Core.Path.{refl}
use Rattle.indexer.specs.Listed.{event_at}
use Rattle.indexer.specs.Left.{storing-all, storing-none, mine-none, mine-one}
use Rattle.indexer.proofs.put_entry.Goals as goal

pub returns-then-owner-eq-NOBODY : goal.returns-then-owner-eq-NOBODY
returns-then-owner-eq-NOBODY c =
    let n = storing-none (storing-all c.args.bytes.now c.args.to refl) (mine-none c.args.owner (event_at c.args.words.now c.args.at) c.if-owner-eq-NOBODY.true) in
    record { value = n.0; bytes_after = n.1 }

pub put_all-requires : goal.put_all-requires
put_all-requires c =
    rw (mine-one c.args.owner (event_at c.args.words.now c.args.at) c.if-owner-eq-NOBODY.false _ c.entry_of-numbers.ensures) c.requires.room

pub returns : goal.returns
returns c =
    let e = mine-one c.args.owner (event_at c.args.words.now c.args.at) c.if-owner-eq-NOBODY.false _ c.entry_of-numbers.ensures in
    record { value = rw e at c.put_all.ensures.value; bytes_after = rw e at c.put_all.ensures.bytes_after }
