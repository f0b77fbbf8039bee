-- What is copied over a range is laid from its start on.
use Rattle.std.proofs.Common.{arith, refl}
use Rattle.blob.specs.Laid.{laid-copied}
use Rattle.listing.proofs.put.Goals as goal

pub returns : goal.returns
returns c = record { ends = refl; holds = laid-copied _ _ _ _ _ refl (omega arith) c.copy_from_slice.ensures.after }
