-- By the list.
use mathlib.Core.Path.{refl, ap, sym, ◌∙◌}
use native.Mathlib.Omega.{arith}
use Rattle.blob.specs.Reading.{verdict}
use Rattle.provided.specs.Provided.{given, filled-providers, filled-descriptors, filled-unknown2, filled-unknown, filled-tables}
use Rattle.provided.proofs.fill.Goals as goal

pub put-requires : goal.put-requires
put-requires c =
    (filled-providers _ _ c.requires.at_in_bounds.2 _ c.wevt_of-v.ensures c.args.number c.args.before.now c.args.area.now _ c.guid_at-g.ensures).0 (rw c.in-1.is at c.requires.provider_room)

pub fill_descriptors-requires : goal.fill_descriptors-requires
fill_descriptors-requires c =
    let k = given _ _ c.requires.at_in_bounds.2 _ c.wevt_of-v.ensures in
    let x = filled-descriptors _ _ c.requires.at_in_bounds.2 _ c.wevt_of-v.ensures c.args.number c.args.before.now c.args.area.now in
    record { n_in_bounds = rw c.word-offset.ensures k.array; n_in_bounds_2 = omega (arith, x.0.0 (rw c.in-2.is at c.requires.provider_room), x.1); b_value = rw c.word-offset.ensures (ap verdict k.descriptors) }

pub fill_unknown2-requires : goal.fill_unknown2-requires
fill_unknown2-requires c =
    let k = given _ _ c.requires.at_in_bounds.2 _ c.wevt_of-v.ensures in
    let x = filled-unknown2 _ _ c.requires.at_in_bounds.2 _ c.wevt_of-v.ensures c.args.number c.args.before.now c.args.area.now in
    record { n_in_bounds = rw c.word-offset.ensures k.words; n_in_bounds_2 = omega (arith, x.0.0 (rw c.in-3.is at c.requires.provider_room), x.1) }

pub returns-in-1 : goal.returns-in-1
returns-in-1 c =
    let x = filled-providers _ _ c.requires.at_in_bounds.2 _ c.wevt_of-v.ensures c.args.number c.args.before.now c.args.area.now _ c.guid_at-g.ensures in
    rw c.in-1.is (x.1 _ _ refl (rw c.word-offset.ensures at c.put.ensures))

pub returns-in-2 : goal.returns-in-2
returns-in-2 c =
    let x = filled-descriptors _ _ c.requires.at_in_bounds.2 _ c.wevt_of-v.ensures c.args.number c.args.before.now c.args.area.now in
    rw c.in-2.is (x.0.1 _ _ (c.fill_descriptors.ensures.value ∙ sym x.1) (rw c.word-offset.ensures at c.fill_descriptors.ensures.area_after))

pub returns-in-3 : goal.returns-in-3
returns-in-3 c =
    let x = filled-unknown2 _ _ c.requires.at_in_bounds.2 _ c.wevt_of-v.ensures c.args.number c.args.before.now c.args.area.now in
    rw c.in-3.is (x.0.1 _ _ (c.fill_unknown2.ensures.value ∙ sym x.1) (rw c.word-offset.ensures at c.fill_unknown2.ensures.area_after))

pub returns-in_default : goal.returns-in_default
returns-in_default c =
    let x = filled-tables _ _ c.requires.at_in_bounds.2 _ c.wevt_of-v.ensures c.args.number c.args.before.now c.args.area.now c.args.list c.in_default.in_default-own.rest.0.0.0.1 c.in_default.in_default-own.rest.0.0.1 c.in_default.in_default-own.rest.0.1 c.in_default.in_default-own.rest.1 in
    rw (x.0, x.1) (rw c.word-offset.ensures at c.fill_tables.ensures)

pub fill_unknown-requires : goal.fill_unknown-requires
fill_unknown-requires c =
    let k = given _ _ c.requires.at_in_bounds.2 _ c.wevt_of-v.ensures in
    let x = filled-unknown _ _ c.requires.at_in_bounds.2 _ c.wevt_of-v.ensures c.args.number c.args.before.now c.args.area.now in
    record {
      n_in_bounds = rw c.word-offset.ensures (k.array, c.requires.at_in_bounds.1);
      b_value = rw c.word-offset.ensures (ap verdict k.elements);
      b_in_bounds = rw c.word-offset.ensures (omega (arith, x.0.0 (rw c.in-10.is at c.requires.provider_room), x.1));
    }

pub fill_tables-requires : goal.fill_tables-requires
fill_tables-requires c =
    let k = given _ _ c.requires.at_in_bounds.2 _ c.wevt_of-v.ensures in
    let r = c.in_default.in_default-own.rest in
    let x = filled-tables _ _ c.requires.at_in_bounds.2 _ c.wevt_of-v.ensures c.args.number c.args.before.now c.args.area.now c.args.list r.0.0.0.1 r.0.0.1 r.0.1 r.1 in
    record {
      n_in_bounds = rw c.word-offset.ensures (k.array, c.requires.at_in_bounds.1);
      b_value = rw c.word-offset.ensures (ap verdict k.elements);
      tables_room = rw c.word-offset.ensures (rw (x.0, x.1) at c.requires.provider_room);
    }

pub returns-in-10 : goal.returns-in-10
returns-in-10 c =
    let x = filled-unknown _ _ c.requires.at_in_bounds.2 _ c.wevt_of-v.ensures c.args.number c.args.before.now c.args.area.now in
    let value = rw c.word-offset.ensures at c.fill_unknown.ensures.value in
    let after = rw c.word-offset.ensures at c.fill_unknown.ensures.area_after in
    rw c.in-10.is (x.0.1 _ _ (value ∙ sym x.1) after)
