-- The header's tests, one by one.
use Rattle.std.specs.Prelude.{Ok, Err}
use mathlib.Core.Path.{sym, ◌∙◌}
use native.Mathlib.Omega.{arith}
use Rattle.blob.proofs.Laws.{answer-found, answer-refused}
use Rattle.provider.specs.Wevt.{wevt_past, wevt_short, wevt_other, wevt_found}
use Rattle.provider.proofs.wevt_at.Goals as goal

pub returns-then-found-ne-WEVT : goal.returns-then-found-ne-WEVT
returns-then-found-ne-WEVT c =
    let w = c.word-found.ensures in
    answer-refused Ok Err _ _ _ (rw (← w) c.wrong_signature.ensures) (wevt_other _ _ (omega arith) (λ e. c.if-found-ne-WEVT.true (w ∙ e)))

pub returns : goal.returns
returns c =
    answer-found Ok Err _ _ _ (rw (c.word-4.ensures, c.word-3.ensures, c.word-2.ensures, c.word.ensures))
    (wevt_found _ _ (omega arith) (sym c.word-found.ensures ∙ c.if-found-ne-WEVT.false))

pub returns-then-b-at : goal.returns-then-b-at
returns-then-b-at c = answer-refused Ok Err _ _ _ c.offset_out.ensures (wevt_past _ _ (omega arith))

pub returns-then-b-at-lt20 : goal.returns-then-b-at-lt20
returns-then-b-at-lt20 c = answer-refused Ok Err _ _ _ c.truncated.ensures (wevt_short _ _ (omega arith) (omega arith))
