-- A table whose end is known is its records.
use Rattle.std.specs.Prelude.{Ok, Err}
use mathlib.Core.Path.{refl, ap, sym, ◌∙◌}
use borrow.Author.Rules.{rules}
use Rattle.blob.specs.Reading.{verdict}
use Rattle.blob.proofs.Laws.{answer-refused, handed_on}
use Rattle.format.proofs.Theorems.Ends.{is_place, no_end}
use Rattle.table.specs.Headers.{end_fits}
use Rattle.definition.specs.Records.{table-refused, table-rows}
use Rattle.definition.proofs.check_definitions.Goals as goal

pub returns-in_err-table_end : goal.returns-in_err-table_end
returns-in_err-table_end c =
    handed_on c.from_residual.ensures.1
    (answer-refused (λ vs. Ok tt) Err _ _ _ refl (table-refused _ _ _ _ _ (no_end _ _ _ c.in_err-table_end.ensures)))

pub check_records-requires : goal.check_records-requires
check_records-requires c =
    let f = end_fits _ _ _ _ _ (is_place _ _ c.in_ok-table_end.ensures) in
    search rules

pub returns : goal.returns
returns c =
    let rows = table-rows _ _ _ _ _ (is_place _ _ c.in_ok-table_end.ensures) in
    c.check_records.ensures ∙ rw c.header_length.ensures.0 (sym (ap verdict rows))
