-- Row by row.
use Prim.Native.Nat.{◌<◌}
use mathlib.Core.Path.{refl}
use Rattle.std.proofs.lemmas.List.{get_or-take}
use Rattle.format.specs.Area.{rows}
use Rattle.format.specs.Answer.{areas}
use Rattle.format.proofs.Theorems.Rowed.{place-at}
use Rattle.counts.specs.Short.{areas-next}
use native.Mathlib.Omega.{arith}
use Rattle.counts.proofs.area_at.Goals as goal

pub loop-i-init : goal.loop-i-init
loop-i-init c = (unfold areas in refl, omega arith)

pub loop-i-preserved : goal.loop-i-preserved
loop-i-preserved c =
    let i = c.loop-i.i in
    let before : i < c.row.result = omega arith in
    let more = rw (get_or-take _ _ _ _ before, place-at i (omega arith)) at c.words_of-sum.ensures in
    (omega (arith, more.0, areas-next rows c.args.c i (omega arith) (omega arith)), omega (arith, more.1))
