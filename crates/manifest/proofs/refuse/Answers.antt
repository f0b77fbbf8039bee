-- The refusal, and no entries.
use mathlib.Core.Path.{refl}
use Rattle.format.specs.Answer.{answer}
use Rattle.manifest.proofs.refuse.Goals as goal

pub returns : goal.returns
unfolding answer
returns c = refl
