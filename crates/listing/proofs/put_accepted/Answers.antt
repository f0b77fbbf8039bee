-- The templates behind the block.
use Rattle.listing.specs.Laws.{put_behind}
use Rattle.listing.proofs.put_accepted.Goals as goal

pub returns-clause-put : goal.returns-clause-put
returns-clause-put c = put_behind c.put_block-to.ensures.put c.put_templates.ensures.put
