-- At the row of the kind's list.
use Rattle.counts.specs.Short.{modest-at}
use Rattle.counts.proofs.grow.Goals as goal

pub sum-requires : goal.sum-requires
sum-requires c = modest-at c.args.ns c.row-i.result c.requires

pub returns : goal.returns
returns c = rw (c.sum.ensures, c.row-i.ensures.0, c.list_of.ensures)
