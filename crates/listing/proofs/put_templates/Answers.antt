-- The lines that are left, put behind those that are there, are all of them; their area starts where the words before it end.
use Rattle.std.proofs.Common.{arith, ◌≡◌}
use Rattle.format.specs.Answer.{areas}
use Rattle.listing.specs.Put.{templates_at}
use Rattle.listing.specs.Laws.{put_behind, put_none, lines_next, lines_none}
use Rattle.listing.proofs.put_templates.Goals as goal

pub loop-i-preserved : goal.loop-i-preserved
unfolding areas
loop-i-preserved c =
    let m = c.loop-i in
    let start : c.area_at-from.result ≡ templates_at = c.area_at-from.ensures.0 in
    let line = rw start at c.put_template-to.ensures.put in
    (omega arith, λ end after p. m.invariant.1 end after (rw (lines_next c.args.words.now c.args.n m.i templates_at (omega arith)) (put_behind line p)))

pub returns-clause-put : goal.returns-clause-put
returns-clause-put c = let m = c.loop-i in m.invariant.1 _ _ (rw (lines_none c.args.words.now c.args.n m.i _ (omega arith)) put_none)
