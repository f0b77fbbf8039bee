-- The invariant: what is left decides.
use mathlib.Core.Path.{◌≡◌}
use Prim.Native.Nat.{◌+◌, ◌*◌, ◌≤◌}
use lib.ListN.{length}
use Rattle.format.specs.Area.{TABLES, TEMPLATES, width}
use Rattle.format.specs.Lookup.{entries_of, every}
use Rattle.lists.specs.Entries.{rest}
use Rattle.lists.specs.Found.{entries, table_holds, tables_hold}
use Rattle.lists.proofs.Fitted.tables_fit.Given as goal

abbrev pub invariant-loop-i : goal.invariant-loop-i
invariant-loop-i l =
    let a = l.self.lists in
    (l.tables.start + width TABLES * l.tables.count ≤ length a.words.now)
    × (tables_hold a.counts (entries_of a.words.now a.capacities a.counts TEMPLATES) (entries_of a.words.now a.capacities a.counts TABLES)
    ≡ every (λ t. table_holds a.counts (entries (width TEMPLATES) l.templates a.words.now) t) (rest (width TABLES) a.words.now l.tables.count l.tables.start l.i))
