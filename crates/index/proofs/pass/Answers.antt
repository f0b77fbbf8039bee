use Rattle.number.proofs.Scan.{most-ones, passed_to, passed-not}
use Rattle.index.proofs.pass.Goals as goal

pub pass-requires : goal.pass-requires
pass-requires c = rw c.most.ensures (most-ones c.args.width)

pub returns-in-Ok : goal.returns-in-Ok
returns-in-Ok c = let n = passed_to _ _ _ _ (rw c.most.ensures at c.in-Ok.ensures) in rw (n.1, n.2)

pub returns-in-Err : goal.returns-in-Err
returns-in-Err c = rw (passed-not _ _ _ _ (rw c.most.ensures at c.in-Err.ensures), c.fault.ensures, c.code.ensures)
