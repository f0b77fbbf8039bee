-- What is left of the form, with what was counted before it, is the whole form.
use Rattle.number.proofs.Forms.{Sizing}
use Rattle.number.proofs.size.Given as goal

abbrev pub invariant-loop-rest : goal.invariant-loop-rest
invariant-loop-rest l = Sizing l.number l.rest l.n

abbrev pub decreases-loop-rest : goal.decreases-loop-rest
decreases-loop-rest l = l.rest
