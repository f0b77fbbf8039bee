-- Of entries that are no wider than the widest.
use Prim.Native.Nat.{◌*◌}
use mathlib.Core.Path.{ap}
use Rattle.counts.specs.Short.{words-most}
use native.Mathlib.Omega.{arith}
use Rattle.counts.proofs.words_of.Goals as goal

pub overflow_mul-result : goal.overflow_mul-result
overflow_mul-result c = omega (arith, words-most c.args.entries c.width.result (omega arith) c.width.ensures.1)

pub returns : goal.returns
returns c = (ap (λ w. c.args.entries * w) c.width.ensures.0, words-most c.args.entries c.width.result (omega arith) c.width.ensures.1)
