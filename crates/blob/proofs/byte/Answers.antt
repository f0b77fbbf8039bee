-- One byte is the number of one.
use Rattle.blob.specs.Le.{one}
use Rattle.blob.proofs.byte.Goals as goal

pub returns : goal.returns
returns c = one _ _
