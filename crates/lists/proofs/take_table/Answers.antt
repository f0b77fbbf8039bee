-- By the tests, in their order.
use mathlib.Core.Path.{◌≡◌, ◌∙◌}
use mathlib.Core.Bool.{true}
use borrow.Author.Tests.{eq-eqb, ne_eqb}
use lib.ListN.{take, drop}
use Rattle.format.specs.Area.{TABLES, width}
use Rattle.lists.specs.Owners.{is_first, passed, taken}
use Rattle.lists.proofs.take_table.Goals as goal

pub returns-then-table_word-number : goal.returns-then-table_word-number
returns-then-table_word-number c =
    passed c.args.owners.now c.args.seen.now (take (width TABLES) (drop c.args.at c.args.words.now)) (rw (← c.table_word.ensures, ← c.number.ensures.0, ne_eqb _ _ c.if-table_word-number.true))

pub returns-then-seen-i : goal.returns-then-seen-i
returns-then-seen-i c =
    passed c.args.owners.now c.args.seen.now (take (width TABLES) (drop c.args.at c.args.words.now)) (rw (← c.table_word.ensures, ← c.table_word-provider.ensures, eq-eqb _ _ (c.if-table_word-number.false ∙ c.number.ensures.0), c.if-seen-i.true))

pub returns : goal.returns
returns c =
    let t = take (width TABLES) (drop c.args.at c.args.words.now) in
    let e : is_first c.args.seen.now t ≡ true = rw (← c.table_word.ensures, ← c.table_word-provider.ensures, eq-eqb _ _ (c.if-table_word-number.false ∙ c.number.ensures.0), c.if-seen-i.false) in
    rw c.table_word-provider.ensures (taken c.args.owners.now c.args.seen.now t e c.take_events.new.owners c.take_events.result (rw (c.table_word-provider.ensures, c.table_word-2.ensures, c.table_word-3.ensures) at c.take_events.ensures))
