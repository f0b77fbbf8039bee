-- What is stored so far, with the bytes that are left laid behind it, is the whole.
use Rattle.number.proofs.Forms.{Storing}
use Rattle.number.proofs.put.Given as goal

abbrev pub invariant-loop-rest : goal.invariant-loop-rest
invariant-loop-rest l = Storing l.initial.bytes l.at l.number l.rest l.bytes l.i

abbrev pub decreases-loop-rest : goal.decreases-loop-rest
decreases-loop-rest l = l.rest
