-- The invariant: those that are left, laid from here, make the list what it shall be.
use Prim.Native.Nat.{◌+◌, ◌*◌, ◌≤◌}
use mathlib.Core.Path.{◌≡◌}
use lib.ListN.{length}
use Rattle.blob.specs.Laid.{laid, flat}
use Rattle.format.specs.Area.{TEMPLATES, place}
use Rattle.format.specs.Entry.{GUID}
use Rattle.lists.specs.Found.{run_of}
use Rattle.lookup.specs.Given.{unset, guid_of, Stands, new_of}
use Rattle.lookup.proofs.fill.Given as goal

abbrev pub invariant-loop-i : goal.invariant-loop-i
invariant-loop-i l =
    let a = l.together.fitted.lists in
    let list = run_of a.capacities a.counts (place TEMPLATES) in
    let left = new_of a.words.now a.capacities a.counts l.guid l.key l.marks l.at in
    Stands a.words.now list l.at
    × (length l.guids ≡ length l.initial.guids)
    × ((l.n ≡ l.i + length left) × (GUID * l.n ≤ length l.guids))
    × (laid l.initial.guids 0 (flat (guid_of a.words.now list) (new_of a.words.now a.capacities a.counts l.guid l.key unset l.initial.at)) ≡ laid l.guids (GUID * l.i) (flat (guid_of a.words.now list) left))
