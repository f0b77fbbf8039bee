-- Way by way, as Checked has them.
use Rattle.std.specs.Prelude.{Err}
use Prim.Native.Nat.{◌+◌}
use mathlib.Core.Path.{◌≡◌, ap, sym, ◌∙◌}
use native.Mathlib.Omega.{arith}
use lib.ListN.{length}
use Rattle.blob.specs.Reading.{verdict}
use Rattle.format.specs.Field.{unknown_element_end}
use Rattle.format.specs.Refuse.{offset_out}
use Rattle.element.specs.Checked.{unknown-short, unknown-out, unknown-fine}
use Rattle.element.proofs.check_unknown.Goals as goal

pub returns-then-b-at-lt8 : goal.returns-then-b-at-lt8
returns-then-b-at-lt8 c = ap Err c.truncated.ensures ∙ sym (ap verdict (unknown-short _ _ (omega arith) (omega arith)))

pub returns-then-b-end : goal.returns-then-b-end
returns-then-b-end c =
    let w : c.args.at + c.word.result ≡ c.args.at + _ = ap (λ x. c.args.at + x) c.word.ensures in
    ap Err (c.offset_out.ensures ∙ ap (λ n. (offset_out unknown_element_end n).told (length c.args.b.now)) c.in_word.ensures)
    ∙ sym (ap verdict (unknown-out c.args.at c.args.b.now (omega arith) (omega arith) _ w (omega arith)))

pub returns : goal.returns
returns c =
    let w : c.args.at + c.word.result ≡ c.args.at + _ = ap (λ x. c.args.at + x) c.word.ensures in
    sym (unknown-fine c.args.at c.args.b.now (omega arith) (omega arith) _ w (omega arith))
