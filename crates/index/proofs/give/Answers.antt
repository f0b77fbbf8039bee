-- The providers' counts, then the entries.
use Rattle.index.proofs.ReadLaws.{counts-stand, entries-stand, index-given}
use Rattle.index.proofs.give.Goals as goal

pub give_counted-place-requires : goal.give_counted-place-requires
give_counted-place-requires c = counts-stand _ _ c.args.words.now c.requires

pub give_counted-requires : goal.give_counted-requires
give_counted-requires c = entries-stand _ _ c.args.words.now c.requires c.give_counted-place.ensures

pub returns : goal.returns
returns c = index-given _ _ c.args.words.now c.requires c.give_counted-place.ensures c.give_counted.ensures
