-- What the region's end decides (Templates), and then the TEMPs until it.
use mathlib.Core.Path.{ap, sym, ◌∙◌}
use native.Mathlib.Omega.{arith}
use Rattle.blob.proofs.Laws.{handed_on}
use Rattle.format.specs.Steps.Needs.{templates_read}
use Rattle.format.proofs.Theorems.Ends.{region-bounds}
use Rattle.template.specs.Templates.{templates-told, templates-refused}
use Rattle.template.proofs.check.Goals as goal

pub check_until-requires : goal.check_until-requires
check_until-requires c =
    let b = region-bounds _ _ _ 12 _ c.requires.0 _ c.in_ok-end.ensures in
    omega arith

pub returns-in_err-end : goal.returns-in_err-end
returns-in_err-end c =
    handed_on c.from_residual.ensures.1 (sym (ap templates_read (templates-refused _ _ _ _ c.in_err-end.ensures)))

pub returns : goal.returns
returns c = c.check_until.ensures ∙ sym (ap templates_read (templates-told _ _ _ _ c.in_ok-end.ensures))
