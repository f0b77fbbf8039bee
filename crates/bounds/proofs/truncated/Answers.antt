-- The refusal holds what `have` counts.
use Rattle.bounds.proofs.truncated.Goals as goal

pub returns : goal.returns
returns c = rw c.have.ensures
