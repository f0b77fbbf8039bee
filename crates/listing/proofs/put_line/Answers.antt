-- One behind the other.
use Rattle.listing.specs.Laws.{put_behind}
use Rattle.listing.proofs.put_line.Goals as goal

pub returns-clause-put : goal.returns-clause-put
returns-clause-put c =
    put_behind c.put_number-to.ensures.put
    (put_behind c.put_number-to-2.ensures.put (put_behind c.put_number-to-3.ensures.put (put_behind c.put_number-to-4.ensures.put c.put.ensures)))
