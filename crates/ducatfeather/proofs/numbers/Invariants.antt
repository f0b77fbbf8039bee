-- The counts behind the five others, one after another.
use Rattle.std.proofs.Common.{◌+◌, ◌≡◌, drop}
use Rattle.blob.specs.Laid.{laid}
use Rattle.ducatfeather.proofs.numbers.Given as goal

abbrev pub invariant-loop-i : goal.invariant-loop-i
invariant-loop-i l = laid l.all (5 + l.i) (drop l.i l.a.counts) ≡ laid l.initial.all 5 l.a.counts
