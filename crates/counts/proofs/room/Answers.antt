-- What is left of the rows decides.
use mathlib.Core.Path.{sym, ◌∙◌}
use Rattle.format.proofs.Theorems.Rowed.{number-at}
use Rattle.counts.specs.Short.{room-more, room-stop, room-end}
use native.Mathlib.Omega.{arith}
use Rattle.counts.proofs.room.Goals as goal

pub returns-then-c-i : goal.returns-then-c-i
returns-then-c-i c =
    rw (c.number.ensures, number-at c.loop-i.i c.loop-i-test.true)
    (sym (room-stop _ (omega arith) c.loop-i.i _ (omega arith) (omega arith) c.if-c-i.true) ∙ c.loop-i.invariant)

pub loop-i-preserved : goal.loop-i-preserved
loop-i-preserved c = sym (room-more _ (omega arith) c.loop-i.i _ (omega arith) (omega arith) c.if-c-i.false) ∙ c.loop-i.invariant

pub returns : goal.returns
returns c = sym (room-end _ (omega arith) c.loop-i.i _ (omega arith) (omega arith)) ∙ c.loop-i.invariant
