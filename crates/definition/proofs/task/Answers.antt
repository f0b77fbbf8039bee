use mathlib.Core.Path.{◌∙◌}
use Rattle.definition.specs.Records.{task_found}
use Rattle.definition.proofs.task.Goals as goal

pub returns : goal.returns
returns c =
    task_found _ _ _ c.guid_at.ensures ∙ rw (c.number.ensures.0, c.absent.ensures, c.word-3.ensures, c.word-2.ensures, c.word.ensures)
