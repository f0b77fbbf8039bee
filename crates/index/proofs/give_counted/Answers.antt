-- The count, then the rows behind it.
use Rattle.std.proofs.Common.{refl}
use Rattle.index.proofs.ReadLaws.{count-stands, rows-stand, counted-given}
use Rattle.index.proofs.give_counted.Goals as goal

pub give_rows-place-requires : goal.give_rows-place-requires
give_rows-place-requires c = count-stands c.requires

pub give_rows-requires : goal.give_rows-requires
give_rows-requires c = rows-stand c.requires c.give_rows-place.ensures refl

pub returns : goal.returns
returns c = counted-given c.requires c.give_rows-place.ensures c.give_rows.ensures
