-- The invariant: what is left decides. What the list has of the kinds that are left, laid from here, makes the area what it shall be.
use Prim.Native.Nat.{◌+◌, ◌-◌}
use Rattle.blob.specs.Reading.{run, values}
use Rattle.format.specs.Provider.{elements_from}
use Rattle.format.specs.Lists.{kept}
use Rattle.format.specs.Steps.Parts.{behind_all, table_parts}
use Rattle.format.proofs.Theorems.Stored.{Left}
use Rattle.element.specs.Kinds.{kept_from}
use Rattle.fillers.proofs.fill_tables.Given as goal

abbrev pub invariant-loop-kind : goal.invariant-loop-kind
invariant-loop-kind l =
    Left (table_parts l.list l.number l.initial.before (kept (values (run (elements_from l.n l.start) l.b)))) (behind_all l.list l.initial.before (kept (values (run (elements_from l.n l.start) l.b)))) l.initial.area
    (table_parts l.list l.number l.before (kept_from (values (run (elements_from l.n l.start) l.b)) (8 - l.kind-index) (l.kind-index + 1))) (behind_all l.list l.before (kept_from (values (run (elements_from l.n l.start) l.b)) (8 - l.kind-index) (l.kind-index + 1))) l.area l.to
