-- Each return cites the law of the test that led there.
use Rattle.std.specs.Prelude.{Ok, Err}
use mathlib.Core.Path.{refl}
use native.Mathlib.Omega.{arith}
use Rattle.blob.proofs.Laws.{answer-found, answer-refused, handed_on}
use Rattle.format.proofs.Theorems.Ends.{is_place, no_end}
use Rattle.table.specs.Headers.{end-cut, end-by_count, end-unbounded, end-past, end-by_size}
use Rattle.table.proofs.table_end.Goals as goal

pub returns-then-b-start : goal.returns-then-b-start
returns-then-b-start c =
    answer-refused Ok Err _ _ _ (rw (← c.field.ensures, ← c.records_length-bytes.ensures.0, ← c.header_length-least.ensures.0) c.truncated.ensures)
    (end-cut _ _ _ _ c.if-h-eq0.true (omega arith))

pub returns-then-h-eq0 : goal.returns-then-h-eq0
returns-then-h-eq0 c =
    answer-found Ok Err _ _ _ (rw (c.records_length-bytes.ensures.0, c.header_length-least.ensures.0)) (end-by_count _ _ _ _ c.if-h-eq0.true (omega arith))

pub returns-in_err-end : goal.returns-in_err-end
returns-in_err-end c =
    let cut = no_end _ _ _ c.in_err-end.ensures in
    handed_on c.from_residual.ensures.1 (answer-refused Ok Err _ _ _ refl (end-unbounded _ _ _ _ _ _ c.field-2.ensures c.header_length-least.ensures.0 c.if-h-eq0.false _ cut))

pub returns-then-end-start : goal.returns-then-end-start
returns-then-end-start c =
    let e = is_place _ _ c.in_ok-end.ensures in
    answer-refused Ok Err _ _ _ (rw (← c.field-then-end-start.ensures) c.size_out.ensures)
    (end-past _ _ _ _ _ _ c.field-2.ensures c.header_length-least.ensures.0 c.if-h-eq0.false _ e (omega arith))

pub returns : goal.returns
returns c =
    let e = is_place _ _ c.in_ok-end.ensures in
    answer-found Ok Err _ _ _ refl
    (end-by_size _ _ _ _ _ _ c.field-2.ensures c.header_length-least.ensures.0 c.if-h-eq0.false _ e (omega arith))
