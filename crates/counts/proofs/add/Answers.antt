-- What is left of the rows decides.
use mathlib.Core.Path.{refl, sym, ◌∙◌}
use lib.ListN.{length-set}
use Rattle.counts.specs.Short.{plus_from, plus_step, plus-end, modest-set}
use native.Mathlib.Omega.{arith}
use Rattle.counts.proofs.add.Goals as goal

pub loop-i-init : goal.loop-i-init
loop-i-init c = (omega arith, c.requires, unfold plus_from in refl)

pub loop-i-preserved : goal.loop-i-preserved
loop-i-preserved c =
    let m = c.loop-i in
    rw c.sum.ensures (simp length-set m.invariant.0, modest-set m.sums _ _ m.invariant.1, sym (plus_step m.i m.sums _ (omega arith) (omega arith)) ∙ m.invariant.2)

pub returns : goal.returns
returns c = sym (plus-end _ _ _ (omega arith)) ∙ c.loop-i.invariant.2
