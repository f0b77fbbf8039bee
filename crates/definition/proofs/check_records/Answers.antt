-- What is left decides: the verdict of the records that are left is that of all.
use mathlib.Core.Path.{sym, ◌∙◌}
use native.Mathlib.Omega.{arith}
use borrow.Author.Rules.{rules}
use Rattle.blob.proofs.Laws.{handed_on, many_next, many-stop, many-none}
use Rattle.format.specs.Definition.{definition_at, step}
use Rattle.definition.specs.Records.{record_refused, record_found}
use Rattle.definition.proofs.check_records.Goals as goal

pub loop-i-init : goal.loop-i-init
loop-i-init c = let e = c.stride-bytes.ensures.0 in rw e (search rules)

pub returns-in_err-check : goal.returns-in_err-check
returns-in_err-check c =
    handed_on c.from_residual.ensures.1
    (sym (c.loop-i.invariant
    ∙ many-stop (definition_at _) (step _) _ _ _ _ (omega arith)
    (record_refused _ _ _ _ c.name_field-field.ensures _ c.name_place-place.ensures.0 _ c.word-offset.ensures _ c.in_err-check.ensures)))

pub loop-i-preserved : goal.loop-i-preserved
loop-i-preserved c =
    let found = record_found _ _ _ _ c.name_field-field.ensures _ c.name_place-place.ensures.0 _ c.word-offset.ensures c.in_ok-check.ensures in
    c.loop-i.invariant ∙ many_next (definition_at _) (step _) _ _ _ _ _ _ (omega arith) found.1 (omega arith)

pub returns : goal.returns
returns c = sym (c.loop-i.invariant ∙ many-none (definition_at _) (step _) _ _ _ (omega arith))
