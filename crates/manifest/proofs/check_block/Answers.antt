-- The array, then the providers.
use Prim.Native.Nat.{◌+◌, ◌*◌, ◌≤◌}
use mathlib.Core.Path.{ap, sym, ◌∙◌}
use native.Mathlib.Omega.{arith}
use lib.ListN.{length}
use Rattle.std.specs.Prelude.{Err}
use Rattle.format.specs.Area.{none}
use Rattle.format.specs.Steps.Needs.{providers_read}
use Rattle.manifest.specs.Read.{array-cut, array_whole}
use Rattle.manifest.proofs.check_block.Goals as goal

pub returns-then-b-bytes : goal.returns-then-b-bytes
returns-then-b-bytes c =
    let x = array-cut c.args.h c.args.b.now (omega (arith, c.if-b-bytes.true, c.requires.0)) in
    ap Err c.truncated.ensures ∙ sym (ap (providers_read none) x)

pub returns : goal.returns
returns c =
    let g : 16 + 20 * c.args.h.count ≤ length c.args.b.now = omega (arith, c.if-b-bytes.false, c.requires.0) in
    c.check.ensures ∙ sym (ap (providers_read none) (array_whole c.args.h c.args.b.now g))
