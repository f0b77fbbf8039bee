-- By the width.
use Rattle.blob.specs.Laid.{laid}
use Rattle.index.proofs.ReadLaws.{words_one}
use Rattle.index.proofs.give_number.Goals as goal

pub returns-in-Long-clause-words_after : goal.returns-in-Long-clause-words_after
unfolding laid
returns-in-Long-clause-words_after c = rw c.in-Long.is

pub returns-clause-words_after : goal.returns-clause-words_after
unfolding laid
returns-clause-words_after c = rw (words_one _ _ c.in_default.not-Long c.requires.0)
