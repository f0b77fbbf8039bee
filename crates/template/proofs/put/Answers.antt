-- Each word is the definition's own.
use mathlib.Core.Path.{ap, ◌∙◌}
use Rattle.blob.specs.Laid.{laid}
use Rattle.template.specs.Temp.{guid-is}
use Rattle.template.proofs.put.Goals as goal

pub returns : goal.returns
returns c is =
    c.put.ensures
    ∙ ap (laid c.args.area.now c.args.to)
    (rw (c.binxml.ensures, c.word-3.ensures, c.word-2.ensures, c.word.ensures, guid-is _ _ _ c.guid_at-g.ensures, c.word-items.ensures))
