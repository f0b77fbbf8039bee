-- What is left of the rows decides.
use mathlib.Core.Path.{sym, ◌∙◌}
use Rattle.format.proofs.Theorems.Rowed.{place-at}
use Rattle.counts.specs.Short.{lent-more, lent-stop, lent-end}
use native.Mathlib.Omega.{arith}
use Rattle.counts.proofs.lent_enough.Goals as goal

pub returns-then-c-i-gt-MOST : goal.returns-then-c-i-gt-MOST
returns-then-c-i-gt-MOST c =
    let m = c.loop-i in
    sym (lent-stop _ (omega arith) m.i m.sum _ (omega arith) c.if-c-i-gt-MOST.true) ∙ m.invariant.1

pub loop-i-preserved : goal.loop-i-preserved
loop-i-preserved c =
    let m = c.loop-i in
    let more = rw (place-at m.i c.loop-i-test.true) at c.words_of-sum.ensures in
    (omega (arith, more.1), sym (lent-more _ (omega arith) m.i m.sum _ (omega arith) c.if-c-i-gt-MOST.false _ more.0) ∙ m.invariant.1)

pub returns : goal.returns
returns c =
    let m = c.loop-i in
    sym (lent-end _ (omega arith) m.i m.sum _ (omega arith)) ∙ m.invariant.1
