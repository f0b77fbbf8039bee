-- Each kind's own check.
use mathlib.Core.Path.{ap, sym, ◌∙◌}
use Rattle.blob.proofs.Laws.{handed_on, fine-value, refused-value}
use Rattle.format.specs.Kinds.{number}
use Rattle.format.specs.Steps.Needs.{count_read}
use Rattle.format.proofs.Theorems.Kinds.{other-number}
use Rattle.element.specs.Checked.{checks_events, checks_maps, checks_templates, checks_definitions}
use Rattle.element.proofs.check_table.Goals as goal

pub returns-in_err-check_definitions-in_default : goal.returns-in_err-check_definitions-in_default
returns-in_err-check_definitions-in_default c =
    handed_on c.from_residual.ensures.1
    (sym (ap (count_read (λ ds. 0)) (refused-value _ _ c.in_err-check_definitions-in_default.ensures))
    ∙ checks_definitions _ _ _ _ (other-number _ _ c.in_default.not-Evnt) (other-number _ _ c.in_default.not-Maps) (other-number _ _ c.in_default.not-Ttbl))

pub returns-in_ok-check_definitions-in_default : goal.returns-in_ok-check_definitions-in_default
returns-in_ok-check_definitions-in_default c =
    sym (ap (count_read (λ ds. 0)) (fine-value _ (sym c.in_ok-check_definitions-in_default.ensures)).1)
    ∙ checks_definitions _ _ _ _ (other-number _ _ c.in_default.not-Evnt) (other-number _ _ c.in_default.not-Maps) (other-number _ _ c.in_default.not-Ttbl)

pub returns-in-Evnt : goal.returns-in-Evnt
returns-in-Evnt c = c.check_events.ensures ∙ checks_events _ _ _ _ (ap number c.in-Evnt.is)

pub returns-in-Maps : goal.returns-in-Maps
returns-in-Maps c = c.check.ensures ∙ checks_maps _ _ _ _ (ap number c.in-Maps.is)

pub returns-in-Ttbl : goal.returns-in-Ttbl
returns-in-Ttbl c = c.check-in-Ttbl.ensures ∙ checks_templates _ _ _ _ (ap number c.in-Ttbl.is)
