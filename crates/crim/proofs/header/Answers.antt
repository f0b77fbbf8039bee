-- Way by way. The equations are named: `cc` would read all that is known at a place for each.
use Rattle.std.specs.Prelude.{Ok, Err}
use mathlib.Core.Path.{sym, ◌∙◌}
use native.Mathlib.Omega.{arith}
use Rattle.blob.proofs.Laws.{answer-found, answer-refused}
use Rattle.crim.specs.Header.{no-signature, other_signature, no_size, no-major, no-minor, no-count, size-under, size-past, header-found}
use Rattle.crim.proofs.header.Goals as goal

pub returns-then-b-lt4 : goal.returns-then-b-lt4
returns-then-b-lt4 c = answer-refused Ok Err _ _ _ c.truncated.ensures (no-signature _ (omega arith))

pub returns-then-found-ne-CRIM : goal.returns-then-found-ne-CRIM
returns-then-found-ne-CRIM c =
    let w = c.word-found.ensures in
    answer-refused Ok Err _ _ _ (rw (← w) c.wrong_signature.ensures) (other_signature _ (omega arith) (λ e. c.if-found-ne-CRIM.true (w ∙ e)))

pub returns-then-b-lt8 : goal.returns-then-b-lt8
returns-then-b-lt8 c = answer-refused Ok Err _ _ _ c.truncated-then-b-lt8.ensures (no_size _ (omega arith) (sym c.word-found.ensures ∙ c.if-found-ne-CRIM.false) (omega arith))

pub returns-then-b-lt10 : goal.returns-then-b-lt10
returns-then-b-lt10 c = answer-refused Ok Err _ _ _ c.truncated-then-b-lt10.ensures (no-major _ (omega arith) (sym c.word-found.ensures ∙ c.if-found-ne-CRIM.false) (omega arith) (omega arith))

pub returns-then-b-lt12 : goal.returns-then-b-lt12
returns-then-b-lt12 c = answer-refused Ok Err _ _ _ c.truncated-then-b-lt12.ensures (no-minor _ (omega arith) (sym c.word-found.ensures ∙ c.if-found-ne-CRIM.false) (omega arith) (omega arith))

pub returns-then-b-lt16 : goal.returns-then-b-lt16
returns-then-b-lt16 c = answer-refused Ok Err _ _ _ c.truncated-then-b-lt16.ensures (no-count _ (omega arith) (sym c.word-found.ensures ∙ c.if-found-ne-CRIM.false) (omega arith) (omega arith))

pub returns-then-size-lt16 : goal.returns-then-size-lt16
returns-then-size-lt16 c =
    answer-refused Ok Err _ _ _ (rw (← c.word-size.ensures) c.size_out.ensures) (size-under _ (omega arith) (sym c.word-found.ensures ∙ c.if-found-ne-CRIM.false) (omega arith) (omega arith))

pub returns-then-b-size : goal.returns-then-b-size
returns-then-b-size c =
    answer-refused Ok Err _ _ _ (rw (← c.word-size.ensures) c.size_out-then-b-size.ensures) (size-past _ (omega arith) (sym c.word-found.ensures ∙ c.if-found-ne-CRIM.false) (omega arith) (omega arith) (omega arith))

pub returns : goal.returns
returns c =
    answer-found Ok Err _ _ _ (rw (c.word.ensures, c.half-2.ensures, c.half.ensures, c.word-size.ensures))
    (header-found _ (omega arith) (sym c.word-found.ensures ∙ c.if-found-ne-CRIM.false) (omega arith) (omega arith) (omega arith))
