-- A law of Decides for each of the tests, in their order.
use Rattle.std.specs.Prelude.{Ok}
use mathlib.Core.Path.{ap, sym, ◌∙◌}
use native.Mathlib.Omega.{arith}
use Rattle.format.specs.Map.{map_read}
use Rattle.map.specs.Decides.{refuses, map-past, map-cut, map-value, map_other}
use Rattle.map.proofs.map_at.Goals as goal

pub returns-then-b-at : goal.returns-then-b-at
returns-then-b-at c = refuses _ _ _ c.offset_out.ensures (map-past _ _ _ c.if-b-at.true)

pub returns-then-b-at-lt4 : goal.returns-then-b-at-lt4
returns-then-b-at-lt4 c = refuses _ _ _ c.truncated.ensures (map-cut _ _ _ (omega arith) (omega arith))

pub returns-then-signature-eq-VMAP : goal.returns-then-signature-eq-VMAP
returns-then-signature-eq-VMAP c =
    c.value_map_at.ensures ∙ sym (ap map_read (map-value _ _ _ _ c.word-signature.ensures (omega arith) c.if-signature-eq-VMAP.true))

pub returns : goal.returns
returns c =
    ap Ok c.other_map.ensures
    ∙ sym (ap map_read (map_other _ _ _ _ c.word-signature.ensures (omega arith) c.if-signature-eq-VMAP.false))
