-- What is stored so far, with the bytes that are left laid behind it, is the whole.
use Rattle.std.proofs.Common.{arith}
use Rattle.number.proofs.Forms.{storing_all, storing_ends, storing_goes}
use Rattle.number.proofs.put.Goals as goal

pub loop-rest-init : goal.loop-rest-init
loop-rest-init c = storing_all _ _ _ (omega arith)

pub bounds-bytes-i : goal.bounds-bytes-i
bounds-bytes-i c = let s = storing_goes c.loop-rest.invariant c.loop-rest-test.true in omega (arith, s.0)

pub loop-rest-preserved : goal.loop-rest-preserved
loop-rest-preserved c = (storing_goes c.loop-rest.invariant c.loop-rest-test.true).1

pub bounds-bytes-i-2 : goal.bounds-bytes-i-2
bounds-bytes-i-2 c = let s = storing_ends c.loop-rest.invariant (omega arith) in omega (arith, s.0)

pub returns : goal.returns
returns c = let s = storing_ends c.loop-rest.invariant (omega arith) in record { value = s.0; bytes_after = s.1 }
