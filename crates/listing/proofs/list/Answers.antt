-- By the length of the bytes, and then by the answer's code.
use Rattle.std.proofs.Common.{rules, arith}
use Rattle.listing.specs.Listed.{too_long, listed-refused, listed-accepted}
use Rattle.listing.proofs.list.Goals as goal

pub returns-then-bytes-gt-MOST-clause-put : goal.returns-then-bytes-gt-MOST-clause-put
returns-then-bytes-gt-MOST-clause-put c = rw (too_long c.args.bytes.now c.if-bytes-gt-MOST.true) at c.put.ensures

pub returns-then-a-ne0-clause-put : goal.returns-then-a-ne0-clause-put
returns-then-a-ne0-clause-put c =
    let r = c.read-a in
    rw (listed-refused c.args.bytes.now (omega (arith, c.if-bytes-gt-MOST.false)) r.result r.ensures.answered c.if-a-ne0.true) at c.put_refusal.ensures.put

pub put_accepted-requires : goal.put_accepted-requires
put_accepted-requires c =
    let r = c.read-a in
    ((listed-accepted c.args.bytes.now (omega (arith, c.if-bytes-gt-MOST.false)) r.result r.ensures.answered r.new.words r.ensures.kept c.if-a-ne0.false).0, search rules, search rules)

pub returns-clause-put : goal.returns-clause-put
returns-clause-put c =
    let r = c.read-a in
    rw (listed-accepted c.args.bytes.now (omega (arith, c.if-bytes-gt-MOST.false)) r.result r.ensures.answered r.new.words r.ensures.kept c.if-a-ne0.false).1
    at c.put_accepted.ensures.put
