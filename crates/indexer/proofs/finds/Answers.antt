-- By the templates, where there is an offset.
use mathlib.Core.Path.{ap, sym, ◌∙◌}
use Rattle.std.specs.Prelude.{is_some}
use Rattle.indexer.specs.Event.{finds-some, some-found}
use Rattle.indexer.proofs.finds.Goals as goal

pub returns-then-offset-ne-NO_TEMPLATE : goal.returns-then-offset-ne-NO_TEMPLATE
returns-then-offset-ne-NO_TEMPLATE c =
    c.is_some.ensures ∙ ap is_some c.at_offset.ensures ∙ some-found _ c.args.templates.first _
    ∙ sym (finds-some _ c.args.at c.requires.0 _ c.if-offset-ne-NO_TEMPLATE.true)
