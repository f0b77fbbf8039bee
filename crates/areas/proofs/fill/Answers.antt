-- The invariant: what is left decides. What the list has of the providers that are left, laid from here, makes the area what it shall be.
use Prim.Native.Nat.{◌-◌, ◌≤◌, ◌<◌}
use mathlib.Core.Path.{refl, ap}
use native.Mathlib.Omega.{arith}
use native.Mathlib.Numerals.{unary_clauses}
use Rattle.blob.specs.Reading.{verdict}
use Rattle.blob.proofs.Laws.{one_on}
use Rattle.format.specs.Steps.Parts.{parts, passed_all}
use Rattle.format.proofs.Theorems.Stored.{left-none}
use Rattle.areas.specs.Walked.{next-provider, next-fine, provider-room, provider-left, none_left}
use Rattle.areas.proofs.fill.Goals as goal

pub loop-number-init : goal.loop-number-init
loop-number-init c = simp unary_clauses (c.requires.b_value, record { same = refl; behind-is = refl; area_is = refl; count = omega arith })

pub slice_bounds-fill-count : goal.slice_bounds-fill-count
slice_bounds-fill-count c =
    (provider-room _ _ _ (omega arith) c.loop-number.invariant.0 _ _ _ c.loop-number.invariant.1 c.requires.room).0

pub fill-to-requires : goal.fill-to-requires
fill-to-requires c =
    let inv = c.loop-number.invariant in
    let more : 0 < c.args.n - c.loop-number.number = omega arith in
    record {
      at_in_bounds = (omega arith, c.requires.n_in_bounds.1, ap verdict (next-provider _ _ _ more inv.0).1);
      provider_room = (provider-room _ _ _ more inv.0 _ _ _ inv.1 c.requires.room).1;
    }

pub overflow_add-to : goal.overflow_add-to
overflow_add-to c =
    let inv = c.loop-number.invariant in
    omega (arith, (provider-left _ _ _ (omega arith) inv.0 _ _ _ inv.1 c.requires.room _ _ _ c.fill-to.ensures).count, c.requires.room.fits)

pub loop-number-preserved : goal.loop-number-preserved
loop-number-preserved c =
    let inv = c.loop-number.invariant in
    let more : 0 < c.args.n - c.loop-number.number = omega arith in
    let e = one_on c.args.n c.loop-number.number 16 20 in
    rw (← e.0, ← e.1) (next-fine _ _ _ more inv.0, provider-left _ _ _ more inv.0 _ _ _ inv.1 c.requires.room _ _ _ c.fill-to.ensures)

pub returns : goal.returns
unfolding parts passed_all
returns c =
    let none : c.args.n - c.loop-number.number ≤ 0 = omega arith in
    (left-none (rw (none_left _ _ _ none) at c.loop-number.invariant.1)).area_is
