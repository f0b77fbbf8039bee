use Rattle.std.specs.Prelude.{Ok, Err}
use mathlib.Core.Path.{sym, ◌∙◌}
use native.Mathlib.Omega.{arith}
use Rattle.blob.proofs.Laws.{answer-found, answer-refused}
use Rattle.table.specs.Headers.{header-past, header-short, header-other, header-found}
use Rattle.table.proofs.header_at.Goals as goal

pub returns-then-b-at : goal.returns-then-b-at
returns-then-b-at c = answer-refused Ok Err _ _ _ (rw (← c.field.ensures) c.offset_out.ensures) (header-past _ _ _ (omega arith))

pub returns-then-b-at-2 : goal.returns-then-b-at-2
returns-then-b-at-2 c =
    let l = c.header_length-needed.ensures.0 in
    answer-refused Ok Err _ _ _ (rw (← c.field-then-b-at-2.ensures, ← l) c.truncated.ensures) (header-short _ _ _ (omega arith) (omega arith))

pub returns-then-found-expected : goal.returns-then-found-expected
returns-then-found-expected c =
    let w = c.word-found.ensures in
    let g = c.signature-expected.ensures in
    answer-refused Ok Err _ _ _ (rw (← w, ← g) c.wrong_signature.ensures) (header-other _ _ _ (omega arith) (λ e. c.if-found-expected.true (w ∙ e ∙ sym g)))

pub returns : goal.returns
returns c =
    answer-found Ok Err _ _ _ (rw (c.word-2.ensures, c.word.ensures)) (header-found _ _ _ (omega arith) (sym c.word-found.ensures ∙ c.if-found-expected.false ∙ c.signature-expected.ensures))
