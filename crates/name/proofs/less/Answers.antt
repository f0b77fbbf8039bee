-- The sum, without what is past 32 bits, is one less.
use native.Mathlib.Omega.{arith}
use Rattle.name.specs.Text.{less}
use Rattle.name.proofs.less.Goals as goal

pub returns : goal.returns
returns c = (less _ (omega arith), omega arith)
