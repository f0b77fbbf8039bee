-- The invariant: what is left decides. The rest, laid from here, makes the area what it shall be, and the rest is fine.
use Rattle.std.specs.Prelude.{Ok}
use Prim.Native.Nat.{◌+◌, ◌-◌, ◌*◌}
use mathlib.Core.Path.{◌≡◌}
use Rattle.blob.specs.Reading.{run, verdict}
use Rattle.blob.proofs.Laws.{rest}
use Rattle.format.specs.Area.{DEFINITIONS, width}
use Rattle.format.specs.Table.{stride}
use Rattle.format.specs.Kinds.{number}
use Rattle.format.specs.Definition.{definition_at, step}
use Rattle.format.specs.Lists.{definition_words}
use Rattle.definition.specs.Records.{rows}
use Rattle.definition.proofs.fill_records.Given as goal

abbrev pub invariant-loop-i : goal.invariant-loop-i
invariant-loop-i l =
    (verdict (run (rows (number l.kind) l.bytes (l.n - l.i) (l.start + l.bytes * l.i)) l.b) ≡ Ok tt)
    × (rest (definition_at (number l.kind)) (step (stride (number l.kind))) definition_words l.b l.initial.area l.n l.start 0
    ≡ rest (definition_at (number l.kind)) (step l.bytes) definition_words l.b l.area (l.n - l.i) (l.start + l.bytes * l.i) (width DEFINITIONS * l.i))
