-- What is left decides: the verdict of the records that are left is that of all.
use Prim.Native.Nat.{◌+◌, ◌-◌, ◌*◌}
use mathlib.Core.Path.{◌≡◌}
use Rattle.blob.specs.Reading.{run, verdict}
use Rattle.format.specs.Table.{stride}
use Rattle.format.specs.Kinds.{number}
use Rattle.definition.specs.Records.{rows}
use Rattle.definition.proofs.check_records.Given as goal

abbrev pub invariant-loop-i : goal.invariant-loop-i
invariant-loop-i l =
    verdict (run (rows (number l.fn.kind) (stride (number l.fn.kind)) l.n l.start) l.b) ≡ verdict (run (rows (number l.fn.kind) l.bytes (l.n - l.i) (l.start + l.bytes * l.i)) l.b)
