-- What is copied over a range is laid from its start on.
use mathlib.Core.Path.{◌∙◌}
use native.Mathlib.Omega.{arith}
use Rattle.std.proofs.lemmas.List.{take_all}
use Rattle.blob.specs.Laid.{laid-copied}
use Rattle.words.proofs.put.Goals as goal

pub returns : goal.returns
returns c = laid-copied _ _ _ _ _ (omega arith) (omega arith) (c.copy_from_slice.ensures.after ∙ search (take_all, arith))
