-- What is left decides: the verdict of the items that are left is that of all.
use mathlib.Core.Path.{sym, ◌∙◌}
use native.Mathlib.Omega.{arith}
use Rattle.blob.proofs.Laws.{handed_on, many_next, many-stop, many-none, refused-value, fine-value}
use Rattle.format.specs.Definition.{step}
use Rattle.item.specs.Items.{item_verdict}
use Rattle.item.proofs.check_row.Goals as goal

pub returns-in_err-check_name : goal.returns-in_err-check_name
returns-in_err-check_name c =
    handed_on c.from_residual.ensures.1
    (sym (c.loop-i.invariant
    ∙ many-stop _ (step 20) _ _ _ _ (omega arith) (refused-value _ _ (c.in_err-check_name.ensures ∙ sym (item_verdict _ _ _ _ _ c.word.ensures)))))

pub loop-i-preserved : goal.loop-i-preserved
loop-i-preserved c =
    let f = fine-value _ (item_verdict _ _ _ _ _ c.word.ensures ∙ sym c.in_ok-check_name.ensures) in
    c.loop-i.invariant ∙ many_next _ (step 20) _ _ _ _ _ _ (omega arith) f.1 (omega arith)

pub returns : goal.returns
returns c = sym (c.loop-i.invariant ∙ many-none _ (step 20) _ _ _ (omega arith))
