-- The number is put behind the text.
use Rattle.listing.specs.Laws.{put_behind}
use Rattle.listing.proofs.put_number.Goals as goal

pub returns-clause-put : goal.returns-clause-put
returns-clause-put c = put_behind c.put-to.ensures c.put_decimal.ensures.put
