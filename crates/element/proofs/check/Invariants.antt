-- The invariant: what is left decides. The kept tables of the kinds that are left, with what was counted before, need what all do.
use Rattle.std.specs.Prelude.{Ok}
use Prim.Native.Nat.{◌+◌, ◌-◌, ◌≤◌}
use mathlib.Core.Path.{◌≡◌}
use lib.ListN.{length}
use Rattle.blob.specs.Reading.{run, verdict, values}
use Rattle.format.specs.Area.{none}
use Rattle.format.specs.Provider.{elements_from}
use Rattle.format.specs.Lists.{kept}
use Rattle.format.specs.Steps.Needs.{modest}
use Rattle.element.specs.Places.{Standing}
use Rattle.element.specs.Kinds.{kept_from}
use Rattle.element.specs.Sums.{grown_all}
use Rattle.element.proofs.check.Given as goal

abbrev pub invariant-loop-kind : goal.invariant-loop-kind
invariant-loop-kind l =
    (l.tables ≤ l.kind-index)
    × modest l.counts
    × (verdict (run (elements_from l.n l.start) l.b) ≡ Ok tt)
    × Standing l.places (values (run (elements_from l.n l.start) l.b))
    × (grown_all l.counts (kept_from (values (run (elements_from l.n l.start) l.b)) (8 - l.kind-index) (l.kind-index + 1)) ≡ grown_all none (kept (values (run (elements_from l.n l.start) l.b))))
    × (l.tables + length (kept_from (values (run (elements_from l.n l.start) l.b)) (8 - l.kind-index) (l.kind-index + 1)) ≡ length (kept (values (run (elements_from l.n l.start) l.b))))
