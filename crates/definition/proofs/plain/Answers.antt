use Rattle.blob.specs.Reading.{run}
use Rattle.blob.proofs.Laws.{run-number}
use Rattle.format.specs.Definition.{plain_fields}
use Rattle.definition.proofs.plain.Goals as goal

pub returns : goal.returns
unfolding plain_fields run
returns c =
    simp run-number (rw (c.number.ensures.0, c.none.ensures, c.absent.ensures, c.word-3.ensures, c.word-2.ensures, c.word.ensures))
