-- The definition's tests, in its order.
use mathlib.Core.Bool.{and-true, and_assoc}
use Rattle.format.specs.Lookup.{alike}
use Rattle.keyed.proofs.has_key.Goals as goal

pub returns : goal.returns
unfolding alike
returns c = simp (and-true, and_assoc)
