-- The fields, and the name that is fine where the definition is.
use mathlib.Core.Path.{ap, sym, ◌∙◌}
use Rattle.blob.specs.Reading.{done}
use Rattle.format.specs.Region.{blob_end}
use Rattle.format.proofs.Theorems.Until.{name-until}
use Rattle.definition.specs.Records.{definition_found, name-fine}
use borrow.Author.Rules.{rules}
use Rattle.definition.proofs.definition_of.Goals as goal

pub name_of-requires : goal.name_of-requires
name_of-requires c =
    let v = name-fine _ _ _ _ c.fields_at-d.ensures _ c.name_field.ensures c.requires.b_value in
    search rules

pub returns : goal.returns
returns c =
    definition_found _ _ _ _ c.fields_at-d.ensures _ c.name_field.ensures _ (name-until blob_end _ _ _ ∙ c.name_of.ensures) ∙ ap done (sym c.with_name.ensures)
