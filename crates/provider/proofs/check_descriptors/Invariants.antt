-- What is left decides: the verdict of the descriptors that are left is that of all.
use Prim.Native.Nat.{◌+◌, ◌-◌, ◌*◌}
use mathlib.Core.Path.{◌≡◌}
use Rattle.blob.specs.Reading.{run, many, verdict}
use Rattle.format.specs.Definition.{step}
use Rattle.format.specs.Provider.{descriptor_at}
use Rattle.provider.proofs.check_descriptors.Given as goal

abbrev pub invariant-loop-i : goal.invariant-loop-i
invariant-loop-i l =
    verdict (run (many descriptor_at (step 8) l.n l.start) l.b) ≡ verdict (run (many descriptor_at (step 8) (l.n - l.i) (l.start + 8 * l.i)) l.b)
