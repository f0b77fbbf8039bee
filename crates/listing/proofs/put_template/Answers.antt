-- The first of the five numbers is put before the others.
use Rattle.listing.specs.Rendered.{line}
use Rattle.listing.specs.Laws.{put_behind}
use Rattle.listing.proofs.put_template.Goals as goal

pub returns-clause-put : goal.returns-clause-put
unfolding line
returns-clause-put c = put_behind c.put_number-to.ensures.put c.put_line.ensures.put
