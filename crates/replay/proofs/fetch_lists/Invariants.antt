-- No list has more words than one of the widest entries, so each starts within as many for each list before it.
use Rattle.std.proofs.Common.{◌*◌, ◌≤◌}
use Rattle.format.specs.Area.{WIDEST}
use Rattle.replay.proofs.fetch_lists.Given as goal

abbrev pub invariant-loop-i : goal.invariant-loop-i
invariant-loop-i l = l.from ≤ 64 * WIDEST * l.i
