-- Way by way, as Parts has them.
use mathlib.Core.Path.{ap, sym, ◌∙◌}
use Rattle.std.specs.Prelude.{Ok}
use Rattle.blob.proofs.Laws.{handed_on}
use Rattle.format.specs.Steps.Needs.{provider_read}
use Rattle.provider.specs.Parts.{had_room, wevt_refused, array-refused, descriptors-refused, words-refused, elements-refused, provider-found}
use Rattle.provider.proofs.check.Goals as goal

pub returns-in_err-w : goal.returns-in_err-w
returns-in_err-w c =
    handed_on c.from_residual.ensures.1 (sym (ap (provider_read _) (wevt_refused _ _ _ c.word-offset.ensures _ c.in_err-w.ensures)))

pub returns-in_err-whole : goal.returns-in_err-whole
returns-in_err-whole c =
    handed_on c.from_residual-in_err-whole.ensures.1
    (sym (ap (provider_read _) (array-refused _ _ _ c.word-offset.ensures _ c.in_ok-w.ensures _ c.in_err-whole.ensures)))

pub returns-in_err-check_descriptors : goal.returns-in_err-check_descriptors
returns-in_err-check_descriptors c =
    handed_on c.from_residual-in_err-check_descriptors.ensures.1
    (sym (ap (provider_read _) (descriptors-refused _ _ _ c.word-offset.ensures _ c.in_ok-w.ensures (had_room _ _ _ c.in_ok-whole.ensures) _ c.in_err-check_descriptors.ensures)))

pub returns-in_err-whole-2 : goal.returns-in_err-whole-2
returns-in_err-whole-2 c =
    handed_on c.from_residual-in_err-whole-2.ensures.1
    (sym (ap (provider_read _) (words-refused _ _ _ c.word-offset.ensures _ c.in_ok-w.ensures (had_room _ _ _ c.in_ok-whole.ensures) (sym c.in_ok-check_descriptors.ensures) _ c.in_err-whole-2.ensures)))

pub check-requires : goal.check-requires
check-requires c = record { n_in_bounds = (had_room _ _ _ c.in_ok-whole.ensures, c.requires.1); b_value = sym c.in_ok-check_descriptors.ensures }

pub returns-in_err-elements : goal.returns-in_err-elements
returns-in_err-elements c =
    handed_on c.from_residual-in_err-elements.ensures.1
    (sym (ap (provider_read _) (elements-refused _ _ _ c.word-offset.ensures _ c.in_ok-w.ensures (had_room _ _ _ c.in_ok-whole.ensures) (sym c.in_ok-check_descriptors.ensures)
    (had_room _ _ _ c.in_ok-whole-2.ensures) _ c.in_err-elements.ensures)))

pub with_own-requires : goal.with_own-requires
with_own-requires c = c.requires.2

pub returns : goal.returns
returns c =
    ap Ok c.with_own.ensures
    ∙ provider-found _ _ _ c.word-offset.ensures _ c.in_ok-w.ensures (had_room _ _ _ c.in_ok-whole.ensures) (sym c.in_ok-check_descriptors.ensures)
    (had_room _ _ _ c.in_ok-whole-2.ensures) _ _ c.in_ok-elements.ensures

pub check_descriptors-requires : goal.check_descriptors-requires
check_descriptors-requires c = had_room _ _ _ c.in_ok-whole.ensures
