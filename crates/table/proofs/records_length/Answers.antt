use Prim.Native.Nat.{◌*◌}
use mathlib.Core.Path.{ap}
use native.Mathlib.Omega.{arith}
use Rattle.table.specs.Headers.{records_bytes}
use Rattle.table.proofs.records_length.Goals as goal

pub overflow_mul-result : goal.overflow_mul-result
overflow_mul-result c = omega (arith, records_bytes c.stride.result c.args.count (omega arith) (omega arith))

pub returns : goal.returns
returns c = (ap (λ w. w * c.args.count) c.stride.ensures.0, records_bytes _ _ (omega arith) (omega arith))
