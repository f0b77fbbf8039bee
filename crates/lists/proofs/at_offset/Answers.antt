-- An entry's offset is one word of it.
use mathlib.Core.Path.{ap, ◌∙◌}
use mathlib.Core.List.{[], ◌∷◌}
use lib.Dec.{eqb}
use Rattle.format.specs.Area.{TEMPLATES, width}
use Rattle.format.specs.Entry.{TEMPLATE_OFFSET}
use Rattle.format.specs.Lookup.{word_of}
use Rattle.lists.specs.Found.{found, has}
use Rattle.lists.specs.Search.{has_one, position-same}
use native.Mathlib.Omega.{arith}
use Rattle.lists.proofs.at_offset.Goals as goal

pub returns : goal.returns
returns c =
    c.find.ensures
    ∙ ap found (position-same (has TEMPLATE_OFFSET (c.args.offset ∷ [])) (λ t. eqb (word_of TEMPLATE_OFFSET t) c.args.offset) c.args.words.now (width TEMPLATES) _ _ _ (omega arith) (λ e l. has_one TEMPLATE_OFFSET c.args.offset e (omega arith)))
