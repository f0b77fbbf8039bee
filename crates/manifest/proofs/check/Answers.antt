-- What is left decides: the answer for the providers that are left, with the needs so far, is that for all.
use mathlib.Core.Path.{ap, sym, ◌∙◌, subst}
use native.Mathlib.Omega.{arith}
use Rattle.blob.proofs.Laws.{handed_on, one_on, result_found, result_refused}
use Rattle.format.specs.Steps.Needs.{modest, needs_all, providers_read}
use Rattle.format.proofs.Theorems.Needed.{plus-modest}
use Rattle.areas.specs.Walked.{none_left}
use Rattle.manifest.specs.Walked.{needs_more, needs_stop}
use Rattle.manifest.proofs.check.Goals as goal

pub returns-in_err-needs : goal.returns-in_err-needs
returns-in_err-needs c =
    handed_on c.from_residual.ensures.1
    (sym (c.loop-i.invariant.1 ∙ needs_stop _ _ _ (omega arith) _ (result_refused _ _ _ c.in_err-needs.ensures) _))

pub loop-i-preserved : goal.loop-i-preserved
loop-i-preserved c =
    let x = result_found _ _ _ c.in_ok-needs.ensures in
    let e = one_on c.args.n c.loop-i.i 16 20 in
    (subst modest (sym x.2) (plus-modest _ _), rw (← e.0, ← e.1) (c.loop-i.invariant.1 ∙ needs_more _ _ _ (omega arith) x.0 x.1 _ _ x.2))

pub returns : goal.returns
unfolding needs_all
returns c = sym (c.loop-i.invariant.1 ∙ ap (providers_read _) (none_left _ _ _ (omega arith)))
