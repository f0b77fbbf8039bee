-- By the name's check.
use Rattle.std.specs.Prelude.{Ok}
use mathlib.Core.Path.{ap, sym, ◌∙◌}
use borrow.Author.Rules.{rules}
use Rattle.blob.proofs.Laws.{handed_on, refused-value}
use Rattle.format.specs.Region.{blob_end}
use Rattle.format.proofs.Theorems.Until.{name-until}
use Rattle.map.specs.Decides.{named_map}
use Rattle.map.proofs.named_map.Goals as goal

pub name_of-name-requires : goal.name_of-name-requires
name_of-name-requires c =
    let v = sym c.in_ok-check.ensures in
    search rules

pub returns : goal.returns
returns c = ap Ok c.value_map.ensures ∙ sym (ap (named_map _ _ _ _) (name-until blob_end _ _ _ ∙ c.name_of-name.ensures))

pub returns-in_err-check : goal.returns-in_err-check
returns-in_err-check c =
    handed_on c.from_residual.ensures.1
    (sym (ap (named_map _ _ _ _) (name-until blob_end _ _ _ ∙ refused-value _ _ c.in_err-check.ensures)))
