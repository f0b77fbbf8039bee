-- The bytes before this one say `value`; those from it on, times `scale`, say what is missing of the number.
use Rattle.std.proofs.Common.{◌-◌, length}
use Rattle.number.proofs.Scan.{Reading}
use Rattle.number.proofs.read.Given as goal

abbrev pub invariant-loop-at : goal.invariant-loop-at
invariant-loop-at l = Reading l.bytes l.at l.i l.value l.scale

abbrev pub decreases-loop-at : goal.decreases-loop-at
decreases-loop-at l = length l.bytes - l.i
