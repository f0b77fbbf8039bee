-- Two words of it.
use mathlib.Core.Path.{refl}
use Rattle.fillers.proofs.header_of.Goals as goal

pub returns : goal.returns
returns c = rw (c.word.ensures, c.word-2.ensures) refl
