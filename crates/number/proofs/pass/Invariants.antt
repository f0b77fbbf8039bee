-- What is left decides: the bytes from here on, with what the width leaves for them.
use Rattle.std.proofs.Common.{◌≡◌, ◌+◌, ◌-◌, ◌<◌, ◌≤◌, length, drop}
use Rattle.number.specs.Number.{LONGEST, number_at}
use Rattle.number.specs.Scan.{passed, scan}
use Rattle.number.proofs.pass.Given as goal

abbrev pub invariant-loop-k : goal.invariant-loop-k
invariant-loop-k l =
    record {
      inside : 0 < l.k → l.at + l.k ≤ length l.bytes;
      decides : passed (number_at l.fn.most l.bytes l.at) ≡ scan l.at (LONGEST - l.k) l.limit (l.at + l.k) (drop (l.at + l.k) l.bytes);
    }
