-- The bytes one by one make the number of two.
use native.Mathlib.Omega.{arith}
use Rattle.blob.specs.Le.{two}
use Rattle.blob.proofs.half.Goals as goal

pub returns : goal.returns
returns c = omega (arith, c.from_le_bytes.ensures, two c.args.b.now c.args.at)
