-- The four words are those of the definition.
use mathlib.Core.Path.{◌∙◌}
use Rattle.words.specs.Guid.{guid-found}
use Rattle.words.proofs.guid_at.Goals as goal

pub returns : goal.returns
returns c = guid-found _ _ ∙ rw (c.word-4.ensures, c.before.word-3.ensures, c.before.before.word-2.ensures, c.before.before.before.word.ensures)
