-- The invariant: what is left decides.
use Prim.{tt}
use mathlib.Core.Path.{refl, ap, sym, ◌∙◌}
use lib.ListN.{length}
use Rattle.lookup.specs.Given.{marked, guid-length, next-skip, next-give, next-below, next-none}
use native.Mathlib.Omega.{arith}
use Rattle.lookup.proofs.next_new.Goals as goal

pub guid_of-requires : goal.guid_of-requires
guid_of-requires c =
    (c.requires.part.0, omega (arith, c.requires.part, next-below c.args.words.now c.args.templates c.args.key.now c.loop-number.marks c.entry_at-at.result _ (sym c.fresh.ensures ∙ c.in-Some.is)))

pub mark-requires : goal.mark-requires
mark-requires c =
    (c.requires.part.0, ap length c.guid_of.ensures ∙ guid-length c.args.words.now c.args.list _ c.requires.part.0 (omega (arith, c.requires.part, next-below c.args.words.now c.args.templates c.args.key.now c.loop-number.marks c.entry_at-at.result _ (sym c.fresh.ensures ∙ c.in-Some.is))))

pub returns-in-Some : goal.returns-in-Some
returns-in-Some c =
    let m = c.mark.ensures ∙ ap (λ u. marked c.args.words.now c.args.list u c.loop-number.marks) c.guid_of.ensures in
    rw c.behind.ensures (
    record {
      tells = λ others. c.loop-number.invariant others ∙ next-give c.args.words.now c.args.list c.args.templates c.args.events c.args.key.now c.loop-number.marks _ c.entry_at-at.result c.loop-number-test.true c.entry_at-at.ensures others _ _ (sym c.fresh.ensures ∙ c.in-Some.is) m;
      behind = (omega (arith, c.requires.part, next-below c.args.words.now c.args.templates c.args.key.now c.loop-number.marks c.entry_at-at.result _ (sym c.fresh.ensures ∙ c.in-Some.is)), refl, omega (arith, c.loop-number-test.true));
    }
    )

pub loop-number-preserved : goal.loop-number-preserved
loop-number-preserved c =
    λ others. c.loop-number.invariant others ∙ next-skip c.args.words.now c.args.list c.args.templates c.args.events c.args.key.now c.loop-number.marks _ c.entry_at-at.result c.loop-number-test.true c.entry_at-at.ensures others (sym c.fresh.ensures ∙ c.in_default.is)

pub returns : goal.returns
returns c =
    record { tells = λ others. c.loop-number.invariant others ∙ next-none c.args.words.now c.args.list c.args.templates c.args.events c.args.key.now _ _ others c.loop-number-test.false; behind = tt }
