-- The invariant: what is left decides. What the list has of the providers that are left, laid from here, makes the area what it shall be.
use Rattle.std.specs.Prelude.{Ok}
use Prim.Native.Nat.{◌+◌, ◌-◌, ◌*◌}
use mathlib.Core.Path.{◌≡◌}
use Rattle.blob.specs.Reading.{run, many, verdict, values}
use Rattle.format.specs.Area.{none}
use Rattle.format.specs.Definition.{step}
use Rattle.format.specs.Crim.{described_at}
use Rattle.format.specs.Steps.Parts.{parts, passed_all}
use Rattle.format.proofs.Theorems.Stored.{Left}
use Rattle.areas.specs.Areas.{providers_in}
use Rattle.areas.proofs.fill.Given as goal

abbrev pub invariant-loop-number : goal.invariant-loop-number
invariant-loop-number l =
    (verdict (run (many described_at (step 20) (l.n - l.number) (16 + 20 * l.number)) l.b) ≡ Ok tt)
    × Left (parts l.list 0 none (providers_in l.n l.b)) (passed_all l.list none (providers_in l.n l.b)) l.initial.area
    (parts l.list l.number l.before (values (run (many described_at (step 20) (l.n - l.number) (16 + 20 * l.number)) l.b))) (passed_all l.list l.before (values (run (many described_at (step 20) (l.n - l.number) (16 + 20 * l.number)) l.b))) l.area l.to
