-- What is left of the two runs decides.
use Rattle.std.proofs.Common.{◌-◌, ◌≡◌, length, map}
use Rattle.replay.specs.Off.{off}
use Rattle.replay.proofs.first_off.Given as goal

abbrev pub invariant-loop-at : goal.invariant-loop-at
invariant-loop-at g l =
    let v = g.T.Unsigned.value in off (map v l.found) (map v l.right) (length l.found - l.at) l.at ≡ off (map v l.found) (map v l.right) (length l.found) 0
