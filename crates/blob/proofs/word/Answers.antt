-- The bytes one by one make the number of four.
use native.Mathlib.Omega.{arith}
use Rattle.blob.specs.Le.{four}
use Rattle.blob.proofs.word.Goals as goal

pub returns : goal.returns
returns c = omega (arith, c.from_le_bytes.ensures, four c.args.b.now c.args.at)
