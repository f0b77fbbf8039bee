-- Whether a place stands for map 0 or for an offset word is the definition's own case.
use mathlib.Core.Path.{ap, sym, ◌∙◌}
use Rattle.format.specs.Map.{map_read}
use Rattle.map.specs.Listed.{listed-first, listed-word}
use Rattle.map.proofs.listed_at.Goals as goal

pub returns-then-place-start : goal.returns-then-place-start
returns-then-place-start c = c.map_at.ensures ∙ sym (ap map_read (listed-first _ _ _ _ _ c.if-place-start.true))

pub returns : goal.returns
returns c = c.map_at-2.ensures ∙ sym (ap map_read (listed-word _ _ _ _ _ _ c.if-place-start.false c.word.ensures))
