use Rattle.blob.specs.Reading.{run}
use Rattle.blob.proofs.Laws.{run-number}
use Rattle.format.specs.Definition.{keyword_fields}
use Rattle.definition.proofs.keyword.Goals as goal

pub returns : goal.returns
unfolding keyword_fields run
returns c =
    simp run-number
    (rw (c.number.ensures.0, c.none.ensures, c.absent.ensures, c.word-4.ensures, c.word-3.ensures, c.word-2.ensures, c.word.ensures))
