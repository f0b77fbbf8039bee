-- By its kind; a TTBL's range is a run of all templates.
use mathlib.Core.Path.{sym, ◌∙◌}
use lib.ListN.{take, drop}
use Rattle.format.specs.Area.{TABLES, width}
use Rattle.format.specs.Entry.{TABLE_KIND}
use Rattle.format.specs.Table.{TTBL}
use Rattle.format.specs.Lookup.{word_of}
use Rattle.lists.specs.Tables.{range-entries}
use borrow.Author.Tests.{eq-eqb, ne_eqb}
use Rattle.lists.proofs.table_owns.Goals as goal

pub returns-then-table_word-number : goal.returns-then-table_word-number
returns-then-table_word-number c = rw (ne_eqb _ _ (λ e. c.if-table_word-number.true (c.table_word.ensures ∙ e ∙ sym c.number.ensures.0)))

pub returns : goal.returns
returns c =
    let t = take (width TABLES) (drop c.args.at c.args.words.now) in
    let e = sym c.table_word.ensures ∙ (c.if-table_word-number.false ∙ c.number.ensures.0) in
    c.all_of.ensures ∙ rw (c.table_word-provider.ensures, c.range_at.ensures, eq-eqb (word_of TABLE_KIND t) TTBL e, range-entries c.args.words.now c.args.templates c.requires.first_value.0 t (c.requires.first_value.1 e))
