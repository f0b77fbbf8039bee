-- The invariant: what is left decides. What the list has of the kinds that are left, laid from here, makes the area what it shall be.
use Prim.Native.Nat.{◌+◌, ◌-◌, ◌≤◌}
use mathlib.Core.Path.{◌≡◌, refl}
use native.Mathlib.Omega.{arith}
use Rattle.format.specs.Steps.Parts.{behind_all, table_parts}
use Rattle.format.proofs.Theorems.Kinds.{in_order}
use Rattle.format.proofs.Theorems.Stored.{left-none}
use Rattle.element.specs.Kinds.{kinds_from, kept-none}
use Rattle.fillers.specs.Kinds.{kind-stands, kind-kept, kind-room, kind-left}
use Rattle.fillers.proofs.fill_tables.Goals as goal

pub loop-kind-init : goal.loop-kind-init
unfolding kinds_from
loop-kind-init c = record { same = refl; behind-is = refl; area_is = refl; count = omega arith }

pub slice_bounds-put_kind-count : goal.slice_bounds-put_kind-count
slice_bounds-put_kind-count c = (kind-room _ _ _ _ _ _ (omega arith) c.loop-kind.invariant c.requires.tables_room _ refl).0

pub put_kind-to-requires : goal.put_kind-to-requires
put_kind-to-requires c =
    let here = kind-kept _ _ _ c.requires.b_value _ c.place_tables.ensures _ _ c.number.ensures.0 c.requires.n_in_bounds.1 _ (in_order c.loop-kind.kind-index (omega arith) _) in
    record {
      b_len_bound = (c.requires.n_in_bounds.1, kind-stands _ _ _ c.requires.b_value _ c.place_tables.ensures _ _ c.number.ensures.0);
      tables_room = (kind-room _ _ _ _ _ _ (omega arith) c.loop-kind.invariant c.requires.tables_room _ here).1;
    }

pub overflow_add-to : goal.overflow_add-to
overflow_add-to c =
    let here = kind-kept _ _ _ c.requires.b_value _ c.place_tables.ensures _ _ c.number.ensures.0 c.requires.n_in_bounds.1 _ (in_order c.loop-kind.kind-index (omega arith) _) in
    let x = kind-left _ _ _ _ _ _ (omega arith) c.loop-kind.invariant c.requires.tables_room _ here _ _ _ c.put_kind-to.ensures in
    omega (arith, x.count, c.requires.tables_room.fits)

pub loop-kind-preserved : goal.loop-kind-preserved
loop-kind-preserved c =
    let here = kind-kept _ _ _ c.requires.b_value _ c.place_tables.ensures _ _ c.number.ensures.0 c.requires.n_in_bounds.1 _ (in_order c.loop-kind.kind-index (omega arith) _) in
    let next : 8 - c.loop-kind.kind-index - 1 ≡ 8 - (c.loop-kind.kind-index + 1) = omega arith in
    rw (← next) (kind-left _ _ _ _ _ _ (omega arith) c.loop-kind.invariant c.requires.tables_room _ here _ _ _ c.put_kind-to.ensures)

pub returns : goal.returns
unfolding behind_all table_parts
returns c =
    let none : 8 - c.loop-kind.kind-index ≤ 0 = omega arith in
    left-none (rw (kept-none _ _ _ none) at c.loop-kind.invariant)
