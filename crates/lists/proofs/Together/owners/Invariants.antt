-- The invariant: what is left decides.
use Prim.Native.Nat.{ℕ, ◌+◌, ◌*◌, ◌≤◌, ◌<◌}
use mathlib.Core.Path.{◌≡◌}
use mathlib.Core.Bool.{true}
use lib.ListN.{length}
use Rattle.format.specs.Area.{TABLES, width}
use Rattle.format.specs.Lookup.{entries_of, tables_fit}
use Rattle.format.specs.Owner.{owners_of}
use Rattle.lists.specs.Entries.{rest}
use Rattle.lists.specs.Owners.{owners_left}
use Rattle.lists.proofs.Together.owners.Given as goal

abbrev pub invariant-loop-i : goal.invariant-loop-i
invariant-loop-i l =
    let a = l.self.fitted.lists in
    let left = rest (width TABLES) a.words.now l.tables.count l.tables.start l.i in
    (l.tables.start + width TABLES * l.tables.count ≤ length a.words.now)
    × (length l.owners ≡ 65536)
    × (tables_fit a.counts left ≡ true)
    × ((i : ℕ) → i < 65536 → owners_of (entries_of a.words.now a.capacities a.counts TABLES) i ≡ owners_left l.owners l.seen left i)
