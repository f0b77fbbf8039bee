-- A law of Decides for each of the tests, in their order.
use mathlib.Core.Path.{refl, sym, ◌∙◌}
use native.Mathlib.Omega.{arith}
use Rattle.map.specs.Decides.{refuses, value-cut, value-few, value-past, value-over, value-named}
use Rattle.map.proofs.value_map_at.Goals as goal

pub returns-then-b-at-lt8 : goal.returns-then-b-at-lt8
returns-then-b-at-lt8 c = refuses _ _ _ c.truncated.ensures (value-cut _ _ _ (omega arith))

pub returns-then-bytes-lt16 : goal.returns-then-bytes-lt16
returns-then-bytes-lt16 c = refuses _ _ _ refl (value-few _ _ _ _ c.word-size.ensures (omega arith) _ c.cut-bytes.ensures c.if-bytes-lt16.true)

pub returns-then-bytes-size : goal.returns-then-bytes-size
returns-then-bytes-size c =
    refuses _ _ _ c.size_out.ensures
    (value-past _ _ _ _ c.word-size.ensures (omega arith) (omega arith) (omega arith) (omega arith))

pub returns-then-size-count : goal.returns-then-size-count
returns-then-size-count c =
    refuses _ _ _ c.size_out-then-size-count.ensures
    (value-over _ _ _ _ c.word-size.ensures (omega arith) (omega arith) (omega arith) _ _ c.word-string.ensures c.word-count.ensures (omega arith) (omega arith))

pub returns : goal.returns
returns c =
    c.named_map.ensures
    ∙ sym (value-named _ _ _ _ c.word-size.ensures (omega arith) (omega arith) (omega arith) _ _ c.word-string.ensures c.word-count.ensures (omega arith) (omega arith))
