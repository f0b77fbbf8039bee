-- The fewest digits are the number's; there are at most as many as an array of 20 has.
use Rattle.std.proofs.Common.{◌∙◌}
use Rattle.listing.specs.Laws.{fewest}
use Rattle.listing.proofs.put_decimal.Goals as goal

pub returns-clause-put : goal.returns-clause-put
returns-clause-put c =
    let d = c.decimal-k in
    rw (d.ensures.digits ∙ fewest c.args.n d.result d.ensures.len) at c.put.ensures
