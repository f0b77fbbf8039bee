-- The invariant: what is left decides. The rest, laid from here, makes the area what it shall be, and the rest is fine.
use Rattle.std.specs.Prelude.{Ok}
use Prim.Native.Nat.{◌+◌, ◌-◌, ◌*◌}
use mathlib.Core.Path.{◌≡◌}
use Rattle.blob.specs.Reading.{run, many, verdict}
use Rattle.blob.proofs.Laws.{rest}
use Rattle.format.specs.Area.{DESCRIPTORS, width}
use Rattle.format.specs.Definition.{step}
use Rattle.format.specs.Lists.{descriptor_words}
use Rattle.format.specs.Provider.{descriptor_at}
use Rattle.fillers.proofs.fill_descriptors.Given as goal

abbrev pub invariant-loop-i : goal.invariant-loop-i
invariant-loop-i l =
    (verdict (run (many descriptor_at (step 8) (l.n - l.i) (l.start + 8 * l.i)) l.b) ≡ Ok tt)
    × (rest descriptor_at (step 8) descriptor_words l.b l.initial.area l.n l.start 0
    ≡ rest descriptor_at (step 8) descriptor_words l.b l.area (l.n - l.i) (l.start + 8 * l.i) (width DESCRIPTORS * l.i))
