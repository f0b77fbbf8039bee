-- Each test decides as the definition's does, in its order.
use Rattle.std.specs.Prelude.{Err}
use Prim.Native.Nat.{◌+◌, ◌≤◌, ◌<◌}
use mathlib.Core.Path.{ap, sym, ◌∙◌}
use native.Mathlib.Omega.{arith}
use borrow.Author.Tests.{le-leb, lt-leb, eq-eqb, ne_eqb}
use Rattle.blob.proofs.Laws.{run-number, run-demand}
use Rattle.format.specs.Region.{inside}
use Rattle.format.specs.Template.{template_at}
use Rattle.template.proofs.check_temp.Goals as goal

pub returns-then-found-ne-TEMP : goal.returns-then-found-ne-TEMP
unfolding template_at inside
returns-then-found-ne-TEMP c =
    simp (run-number, run-demand, le-leb _ _ c.requires.at_bound.0, sym c.word-found.ensures, ne_eqb _ _ c.if-found-ne-TEMP.true) (ap Err c.wrong_signature.ensures)

pub returns-then-size-lt40 : goal.returns-then-size-lt40
unfolding template_at inside
returns-then-size-lt40 c =
    simp (run-number, run-demand, le-leb _ _ c.requires.at_bound.0, eq-eqb _ _ (sym c.word-found.ensures ∙ c.if-found-ne-TEMP.false), sym c.requires.size_value, lt-leb _ _ c.if-size-lt40.true) (ap Err c.size_out.ensures)

pub returns-then-end-at : goal.returns-then-end-at
unfolding template_at inside
returns-then-end-at c =
    let past : c.args.end < c.args.at + c.args.size = omega arith in
    simp (run-number, run-demand, le-leb _ _ c.requires.at_bound.0, eq-eqb _ _ (sym c.word-found.ensures ∙ c.if-found-ne-TEMP.false), sym c.requires.size_value, le-leb _ _ c.if-size-lt40.false, lt-leb _ _ past)
    (ap Err c.size_out-then-end-at.ensures)

pub returns : goal.returns
unfolding template_at inside
returns c =
    let ends : c.args.at + c.args.size ≤ c.args.end = omega arith in
    simp (run-number, run-demand, le-leb _ _ c.requires.at_bound.0, eq-eqb _ _ (sym c.word-found.ensures ∙ c.if-found-ne-TEMP.false), sym c.requires.size_value, le-leb _ _ c.if-size-lt40.false, le-leb _ _ ends)
    (simp run-number at c.check_fields.ensures)
