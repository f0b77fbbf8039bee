-- The invariant of both loops: what is left decides. The text that is left, with the units so far, is the text of all.
use mathlib.Core.Path.{sym, ◌∙◌}
use native.Mathlib.Nat.{sub_self}
use native.Mathlib.Omega.{arith}
use borrow.Author.Rules.{rules}
use borrow.Author.Tests.{leb-true, ltb-true}
use lib.Dec.{leb}
use Rattle.blob.proofs.Laws.{both}
use Rattle.name.specs.Text.{text-none, text-zero, text-below, text-above, text-pair, text-unpaired, text-four, pairs-two}
use Rattle.name.proofs.units.Goals as goal
use Rattle.name.proofs.units.Goals.{then-unit-lt55296+else-unit-eq0, else-unit-lt55296+else-unit-lt57344}

pub loop-at-init : goal.loop-at-init
loop-at-init c = (search rules, search rules, rw sub_self)

pub overflow_sub-left : goal.overflow_sub-left
overflow_sub-left c = leb-true _ _ (both _ _ (sym c.four.ensures ∙ c.loop-at-test.true)).0

pub loop-at-smaller : goal.loop-at-smaller
loop-at-smaller c = omega (arith, overflow_sub-left c)

pub loop-at-preserved : goal.loop-at-preserved
loop-at-preserved c =
    let four = overflow_sub-left c in (
      omega arith,
      omega arith,
      c.loop-at.invariant.2
          ∙ text-four _ _ _ _ _ _ _ _ _ (omega arith) (omega arith) (omega arith)
          (ltb-true _ _ (both (leb 4 c.loop-at.left) _ (sym c.four.ensures ∙ c.loop-at-test.true)).1),
    )

pub loop-left-init : goal.loop-left-init
loop-left-init c = c.loop-at.invariant

pub returns-then-unit-eq0 : goal.returns-then-unit-eq0
returns-then-unit-eq0 c =
    c.loop-left.invariant.2 ∙ text-zero _ _ _ _ _ _ _ (omega arith) c.loop-left-test.true (sym c.half-unit.ensures ∙ c.if-unit-eq0.true)

pub overflow_sub-left-then-paired : goal.overflow_sub-left-then-paired
overflow_sub-left-then-paired c = pairs-two _ _ _ (sym c.paired.ensures ∙ c.if-paired.true)

pub loop-left-smaller-then-paired : goal.loop-left-smaller-then-paired
loop-left-smaller-then-paired c = omega (arith, overflow_sub-left-then-paired c)

pub loop-left-preserved-then-paired : goal.loop-left-preserved-then-paired
loop-left-preserved-then-paired c =
    let two = overflow_sub-left-then-paired c in (
      omega arith,
      omega arith,
      c.loop-left.invariant.2
          ∙ text-pair _ _ _ _ _ _ c.loop-left-test.true (omega arith) (omega arith) _ (omega arith) (sym c.paired.ensures ∙ c.if-paired.true),
    )

pub returns-then-unit-lt57344 : goal.returns-then-unit-lt57344
returns-then-unit-lt57344 c =
    c.loop-left.invariant.2
    ∙ text-unpaired _ _ _ _ _ _ c.loop-left-test.true (omega arith) (omega arith) c.args.n (sym c.paired.ensures ∙ c.if-paired.false)

pub returns : goal.returns
returns c =
    c.loop-left.invariant.2 ∙ text-none _ _ _ _ _ _ c.args.n (omega arith) c.loop-left-test.false

pub loop-left-preserved : goal.loop-left-preserved
loop-left-preserved c = (
  search rules,
  search rules,
  c.loop-left.invariant.2
      ∙ elim c.if-unit-lt55296.branch [
        | then-unit-lt55296+else-unit-eq0 w ↦ text-below _ _ _ _ _ _ _ _ (omega arith) (omega arith) (omega arith) (omega arith)
        | else-unit-lt55296+else-unit-lt57344 w ↦ text-above _ _ _ _ _ _ _ _ (omega arith) (omega arith) (omega arith)
      ],
)
