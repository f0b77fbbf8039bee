-- A table that is fine ends, so that its records lie in the blob and are all of it.
use mathlib.Core.Path.{ap, sym, ◌∙◌}
use borrow.Author.Rules.{rules}
use Rattle.blob.specs.Reading.{verdict, values}
use Rattle.blob.specs.Laid.{laid, flat}
use Rattle.format.specs.Lists.{definition_words}
use Rattle.table.specs.Headers.{end_fits}
use Rattle.definition.specs.Records.{table-ends, table-rows}
use Rattle.definition.proofs.fill_definitions.Goals as goal

pub fill_records-requires : goal.fill_records-requires
fill_records-requires c =
    let v = c.requires.b_value in
    let t = table-ends _ _ _ _ v in
    let f = end_fits _ _ _ _ _ t.1 in record { kind_bound = search rules; b_len_bound = search rules; b_value = rw c.header_length.ensures.0 (sym (ap verdict (table-rows _ _ _ _ _ t.1)) ∙ v); n_in_bounds = search rules }

pub returns : goal.returns
returns c =
    let t = table-ends _ _ _ _ c.requires.b_value in
    c.fill_records.ensures
    ∙ rw c.header_length.ensures.0 (sym (ap (λ o. laid c.args.area.now 0 (flat definition_words (values o))) (table-rows _ _ _ _ _ t.1)))
