-- The words of a table, and its entries counted.
use mathlib.Core.Path.{ap, ◌∙◌}
use native.Mathlib.Omega.{arith}
use lib.ListN.{get_or}
use Rattle.format.proofs.Theorems.Kinds.{one_of-eight}
use Rattle.format.specs.Area.{place}
use Rattle.fillers.specs.Filled.{table-room, table-stored}
use Rattle.fillers.proofs.put_table.Goals as goal

pub put-requires : goal.put-requires
put-requires c =
    (table-room _ _ _ _ c.requires.b_value (one_of-eight c.args.kind).0 (one_of-eight c.args.kind).1 c.args.number c.args.before.now c.args.area.now c.requires.tables_room).0

pub overflow_add-before : goal.overflow_add-before
overflow_add-before c =
    omega (arith, (table-room _ _ _ _ c.requires.b_value (one_of-eight c.args.kind).0 (one_of-eight c.args.kind).1 c.args.number c.args.before.now c.args.area.now c.requires.tables_room).1, ap (λ i. get_or c.args.before.now i 0) (c.row-i.ensures.0 ∙ ap place c.list_of.ensures))

pub returns : goal.returns
returns c =
    table-stored _ _ _ _ c.requires.b_value (one_of-eight c.args.kind).0 (one_of-eight c.args.kind).1 c.args.number c.args.before.now c.args.area.now c.requires.tables_room _ _ _ c.trailing_of-t.ensures (c.row-i.ensures.0 ∙ ap place c.list_of.ensures) (rw c.number.ensures.0 at c.put.ensures)
