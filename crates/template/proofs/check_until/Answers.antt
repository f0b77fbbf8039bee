-- The invariant: what is left decides. The answer for the TEMPs that are left, with the items so far, is that for all.
use Rattle.std.specs.Prelude.{Err}
use Prim.Native.Nat.{◌+◌, ◌<◌}
use mathlib.Core.Path.{ap, sym, ◌∙◌}
use native.Mathlib.Omega.{arith}
use borrow.Author.Tests.{lt-leb}
use Rattle.blob.proofs.Laws.{many-refused, many-empty, refused-value, run-fails, handed_on}
use Rattle.format.specs.Region.{inside}
use Rattle.format.specs.Template.{template_at, next}
use Rattle.format.specs.Answer.{capped}
use Rattle.format.proofs.Theorems.Counting.{counted_from, counted_none, counted-more}
use Rattle.template.specs.Temp.{fine-template, fine-count}
use Rattle.template.specs.Templates.{turns-again, turns_next}
use Rattle.template.proofs.check_until.Goals as goal

pub returns-then-end-at-lt40 : goal.returns-then-end-at-lt40
unfolding template_at inside
returns-then-end-at-lt40 c =
    let cut : c.args.end < c.loop-left.at + 40 = omega arith in
    ap Err c.truncated.ensures
    ∙ sym (c.loop-left.invariant.2 ∙ ap (counted_from _ _) (many-refused _ next _ _ _ _ c.loop-left-test.true (run-fails _ _ _ _ (lt-leb _ _ cut))))

pub returns-in_err-check_temp : goal.returns-in_err-check_temp
returns-in_err-check_temp c =
    handed_on c.from_residual.ensures.1 (sym (c.loop-left.invariant.2 ∙ ap (counted_from _ _) (many-refused _ next _ _ _ _ c.loop-left-test.true (refused-value _ _ (c.in_err-check_temp.ensures)))))

pub loop-left-smaller-then-size-same : goal.loop-left-smaller-then-size-same
loop-left-smaller-then-size-same c = turns_next _ _ _ _ _ _ c.loop-left-test.true

pub loop-left-preserved-then-size-same : goal.loop-left-preserved-then-size-same
loop-left-preserved-then-size-same c =
    let size = sym c.if-size-same.true ∙ c.word-size.ensures in
    let f = fine-template _ _ _ _ size (sym c.in_ok-check_temp.ensures) in
    let more = c.sum-items.ensures ∙ ap (λ n. capped (c.loop-left.items + n)) (c.word.ensures ∙ sym (fine-count _ _ _ _ size f)) in
    (f.stands.ends, omega arith, c.loop-left.invariant.2 ∙ counted-more _ _ next _ _ _ _ c.loop-left-test.true f.found _ _ more)

pub loop-left-smaller : goal.loop-left-smaller
loop-left-smaller c = turns-again _ _ _ _ _ c.word-size.ensures c.if-size-same.false

pub returns : goal.returns
returns c =
    sym (c.loop-left.invariant.2 ∙ ap (counted_from _ _) (many-empty _ next _ _ _ c.loop-left-test.false) ∙ counted_none _ _ c.loop-left.invariant.1)
