-- The invariant: what is left decides. The lists from a row on, laid from here, make the words what they shall be.
use mathlib.Core.Path.{refl, ap, sym, ◌∙◌}
use Prim.Native.Nat.{◌+◌}
use native.Mathlib.Omega.{arith}
use Rattle.format.specs.Area.{rows}
use Rattle.format.proofs.Theorems.Rowed.{place-at, number-at}
use Rattle.counts.specs.Short.{areas-step}
use Rattle.areas.specs.Areas.{providers_in, lent_both, area_fits, no_words, fill_step, fill_end}
use Rattle.areas.proofs.fill_areas.Goals as goal

pub loop-i-init : goal.loop-i-init
loop-i-init c = (omega (arith, (lent_both c.args.capacities c.args.words.now c.requires.needs_value.1).1), refl)

pub fill_area-to-requires : goal.fill_area-to-requires
fill_area-to-requires c =
    let ps = providers_in c.args.n c.args.b.now in
    let i = c.loop-i.i in
    let a = areas-step rows c.args.capacities i (omega arith) (omega arith) in
    let size = rw (place-at i c.loop-i-test.true) at c.words_of-size.ensures.0 in
    record {
      n_in_bounds = c.requires.n_in_bounds;
      b_value = c.requires.b_value;
      size_in_bounds = omega (arith, a, size, c.loop-i.invariant.0);
      b_len_bound = rw (size, c.number.ensures, number-at i c.loop-i-test.true) (area_fits c.args.capacities (omega arith) ps (lent_both c.args.capacities c.args.words.now c.requires.needs_value.1).0 c.requires.roomy i (omega arith));
      b_value_2 = λ z. rw (c.number.ensures, number-at i c.loop-i-test.true) (no_words ps c.args.needs c.requires.needs_value.0 i (omega arith) z);
    }

pub loop-i-preserved : goal.loop-i-preserved
loop-i-preserved c =
    let i = c.loop-i.i in
    let to = c.fill_area-to.ensures in
    let a = areas-step rows c.args.capacities i (omega arith) (omega arith) in
    let size = rw (place-at i c.loop-i-test.true) at c.words_of-size.ensures.0 in (
      omega (arith, a, size, c.loop-i.invariant.0, to.value, c.fill_area-to.auto.words),
      c.loop-i.invariant.1
          ∙ fill_step c.args.capacities (omega arith) _ i (omega arith) _ _ _ _ (rw (c.number.ensures, number-at i c.loop-i-test.true) at to.words_after) (to.value ∙ ap (λ n. c.loop-i.to + n) size),
    )

pub returns : goal.returns
returns c = sym (c.loop-i.invariant.1 ∙ fill_end c.args.capacities (omega arith) _ c.loop-i.i (omega arith) _ _)
