-- The invariant: what is left decides. The kept tables of the kinds that are left, with what was counted before, need what all do.
use Rattle.std.specs.Prelude.{Ok}
use Prim.Native.Nat.{◌+◌, ◌-◌, ◌≤◌, ◌<◌}
use mathlib.Core.Path.{◌≡◌, ap, sym, ◌∙◌, subst}
use native.Mathlib.Omega.{arith}
use borrow.Author.Rules.{rules}
use lib.ListN.{get_or, length}
use Rattle.blob.specs.Reading.{run, values}
use Rattle.format.specs.Area.{none}
use Rattle.format.specs.Table.{MAPS, TTBL, kind_list}
use Rattle.format.specs.Provider.{elements_from}
use Rattle.format.specs.Lists.{kept}
use Rattle.format.specs.Answer.{capped}
use Rattle.format.specs.Steps.Needs.{modest, grown}
use Rattle.format.proofs.Theorems.Kinds.{in_order}
use Rattle.blob.proofs.Laws.{handed_on, fine-done}
use native.Mathlib.Nat.{zero-add}
use Rattle.counts.specs.Short.{modest-set}
use Rattle.element.specs.Kinds.{kept_from, kept-all, kept-none, kept-header}
use Rattle.element.specs.Sums.{grown_all, count-here, tables-here, none_here}
use Rattle.element.specs.Counted.{needed_for, is_elements, no-elements, counts-told}
use Rattle.element.proofs.check.Goals as goal
use Rattle.element.proofs.check.Goals.{then-place, else-place}

pub returns-in_err-e : goal.returns-in_err-e
returns-in_err-e c =
    handed_on c.from_residual.ensures.1 (sym (ap needed_for (no-elements (run (elements_from c.args.n c.args.start) c.args.b.now) _ c.in_err-e.ensures)))

pub loop-kind-init : goal.loop-kind-init
loop-kind-init c =
    let o = run (elements_from c.args.n c.args.start) c.args.b.now in
    let e = is_elements o _ c.in_ok-e.ensures in
    (omega arith, search rules, e.0, e.1, ap (grown_all none) (sym (kept-all (values o))), ap (λ ts. 0 + length ts) (sym (kept-all (values o))) ∙ zero-add (length (kept (values o))))

pub returns : goal.returns
unfolding grown_all
returns c =
    let o = run (elements_from c.args.n c.args.start) c.args.b.now in
    let m = c.loop-kind in
    let e = is_elements o _ c.in_ok-e.ensures in
    let n = kept-none (values o) (8 - m.kind-index) (m.kind-index + 1) (omega arith) in
    ap Ok
    (counts-told c.args.b.now c.args.n c.args.start m.invariant.2 m.counts (sym (ap (grown_all m.counts) n) ∙ m.invariant.4) m.tables _ _ _ (omega arith)
    (omega (arith, m.invariant.5, ap (λ ts. length ts) n)) (ap (λ k. get_or c.in_ok-e.e.entries k 0) c.number-2.ensures.0 ∙ e.2 MAPS (omega arith) (omega arith)) (ap (λ k. get_or c.in_ok-e.e.entries k 0) c.number-3.ensures.0 ∙ e.2 TTBL (omega arith) (omega arith)) (c.sum.ensures ∙ ap (λ u. capped (0 + u)) e.3))
    ∙ sym (ap needed_for (fine-done o m.invariant.2))

pub overflow_add-place : goal.overflow_add-place
overflow_add-place c =
    let m = c.loop-kind in
    omega (arith, kept-header _ _ _ _ m.invariant.2 _ (m.invariant.3 _ c.number.ensures.1 c.number.ensures.2) c.if-place.true)

pub word-requires : goal.word-requires
word-requires c =
    let m = c.loop-kind in
    omega (arith, kept-header _ _ _ _ m.invariant.2 _ (m.invariant.3 _ c.number.ensures.1 c.number.ensures.2) c.if-place.true)

pub loop-kind-preserved : goal.loop-kind-preserved
loop-kind-preserved c =
    let es = values (run (elements_from c.args.n c.args.start) c.args.b.now) in
    let m = c.loop-kind in
    let i = m.kind-index in
    let more : 0 < 8 - i = omega arith in
    let one : 1 ≤ i + 1 = omega arith in
    let most : i + 1 ≤ 8 = omega arith in
    let k = in_order i (omega arith) _ in
    let place = ap (λ k. get_or c.in_ok-e.e.places k 0) (c.number.ensures.0 ∙ k) ∙ m.invariant.3 (i + 1) one most in
    let next : 8 - i - 1 ≡ 8 - (i + 1) = omega arith in
    rw (← next) (
      elim c.if-place.branch [ then-place w ↦ omega arith | else-place w ↦ omega arith ],
      elim c.if-place.branch [
        | then-place w ↦ subst modest (sym (w.counts-is ∙ w.grow-counts.ensures)) (modest-set m.counts _ _ m.invariant.1)
        | else-place w ↦ subst modest (sym w.counts-is) m.invariant.1
      ],
      m.invariant.2,
      m.invariant.3,
      elim c.if-place.branch [
        | then-place w ↦
            sym (count-here _ _ _ _ m.invariant.2 _ place _ _ more w.if-place.true one most _ w.word.ensures _ (w.counts-is ∙ w.grow-counts.ensures ∙ ap (λ k. grown (kind_list k) w.word.result m.counts) k))
        | else-place w ↦
            ap (λ ms. grown_all ms (kept_from es (8 - i - 1) (i + 1 + 1))) w.counts-is
            ∙ ap (grown_all m.counts) (sym (none_here _ _ _ _ m.invariant.2 _ place m.counts _ more c.requires.n_in_bounds.1 w.if-place.false))
      ]
          ∙ m.invariant.4,
      elim c.if-place.branch [
        | then-place w ↦ omega (arith, w.tables-is, m.invariant.5, tables-here _ _ _ _ m.invariant.2 _ place m.counts _ more w.if-place.true)
        | else-place w ↦
            omega (arith, w.tables-is, m.invariant.5, ap (λ ts. length ts) (none_here _ _ _ _ m.invariant.2 _ place m.counts _ more c.requires.n_in_bounds.1 w.if-place.false))
      ],
    )
