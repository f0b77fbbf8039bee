-- By the list, and by the kind that has entries in it.
use mathlib.Core.Path.{sym, ◌∙◌}
use borrow.Author.Rules.{rules}
use Rattle.blob.specs.Reading.{run}
use Rattle.format.specs.Kinds.{number}
use Rattle.format.proofs.Theorems.Kinds.{one_of-eight}
use Rattle.format.specs.Provider.{table_at}
use borrow.Author.Tests.{eqb-true}
use Rattle.fillers.specs.Rows.{header-as}
use Rattle.fillers.specs.Filled.{definitions-stride, as_templates, parts-templates, fills_definitions, fills_events, events-room, fills_maps, fills_entries, fills_items, fills_templates}
use Rattle.fillers.proofs.put_rows.Goals as goal

pub put_table-requires : goal.put_table-requires
put_table-requires c =
    record { header_in_bounds = c.requires.header_in_bounds; b_value = c.requires.b_value; tables_room = rw c.in-4.is at c.requires.tables_room }

pub fill_definitions-requires : goal.fill_definitions-requires
fill_definitions-requires c =
    let q = rw c.in-5.is at c.requires.kind_value in
    let x = fills_definitions _ _ _ _ c.requires.b_value q c.args.number c.args.before.now c.args.area.now (rw c.in-5.is at c.requires.tables_room) in
    record { kind_bound = (definitions-stride (number c.args.kind) (one_of-eight c.args.kind).0 (one_of-eight c.args.kind).1 q, c.requires.header_in_bounds.0); b_len_bound = c.requires.header_in_bounds.1; b_value = x.0; count_in_bounds = x.1 }

pub fill_events-requires : goal.fill_events-requires
fill_events-requires c =
    let q = eqb-true (number c.args.kind) 2 (rw c.in-6.is at c.requires.kind_value) in
    record { n_in_bounds = events-room _ _ _ _ c.requires.b_value q; n_in_bounds_2 = (fills_events _ _ _ _ c.requires.b_value q c.args.number c.args.before.now c.args.area.now (rw c.in-6.is at c.requires.tables_room)).1 }

pub fill_maps-requires : goal.fill_maps-requires
fill_maps-requires c =
    let q = eqb-true (number c.args.kind) 5 (rw c.in-7.is at c.requires.kind_value) in
    let x = fills_maps _ _ _ _ c.requires.b_value q c.args.number c.args.before.now c.args.area.now (rw c.in-7.is at c.requires.tables_room) in
    record { at_in_bounds = (header-as 5 _ _ _ q c.requires.header_in_bounds.0, c.requires.header_in_bounds.1); b_value = x.0; count_in_bounds = x.1; b_bound = x.2 }

pub fill_entries-requires : goal.fill_entries-requires
fill_entries-requires c =
    let q = eqb-true (number c.args.kind) 5 (rw c.in-8.is at c.requires.kind_value) in
    let x = fills_entries _ _ _ _ c.requires.b_value q c.args.number c.args.before.now c.args.area.now (rw c.in-8.is at c.requires.tables_room) in
    record { at_in_bounds = (header-as 5 _ _ _ q c.requires.header_in_bounds.0, c.requires.header_in_bounds.1); b_value = x.0; b_in_bounds = x.1 }

-- what is known of a TTBL whose items are stored
pub overflow_add-before : goal.overflow_add-before
overflow_add-before c =
    let q = eqb-true (number c.args.kind) 8 (rw c.in-12.is at c.requires.kind_value) in
    let x = (fills_items _ _ _ _ c.requires.b_value q c.args.number c.args.before.now c.args.area.now (rw c.in-12.is at c.requires.tables_room)).2 in
    search rules

pub fill_items-requires : goal.fill_items-requires
fill_items-requires c =
    let q = eqb-true (number c.args.kind) 8 (rw c.in-12.is at c.requires.kind_value) in
    let x = fills_items _ _ _ _ c.requires.b_value q c.args.number c.args.before.now c.args.area.now (rw c.in-12.is at c.requires.tables_room) in
    record { at_in_bounds = (header-as 8 _ _ _ q c.requires.header_in_bounds.0, c.requires.header_in_bounds.1, x.2); b_value = x.0; b_in_bounds = x.1 }

pub fill-requires : goal.fill-requires
fill-requires c =
    let q = eqb-true (number c.args.kind) 8 (sym (as_templates c.args.list c.in_default.in_default-own.rest.0.0.0.0.0.1 c.in_default.in_default-own.rest.0.0.0.0.1 c.in_default.in_default-own.rest.0.0.0.1 c.in_default.in_default-own.rest.0.0.1 c.in_default.in_default-own.rest.0.1 c.in_default.in_default-own.rest.1 (number c.args.kind)) ∙ c.requires.kind_value) in
    let y = parts-templates c.args.list c.in_default.in_default-own.rest.0.0.0.0.0.1 c.in_default.in_default-own.rest.0.0.0.0.1 c.in_default.in_default-own.rest.0.0.0.1 c.in_default.in_default-own.rest.0.0.1 c.in_default.in_default-own.rest.0.1 c.in_default.in_default-own.rest.1 c.args.number c.args.before.now (run (table_at (number c.args.kind) c.args.at c.args.h) c.args.b.now) in
    let x = fills_templates _ _ _ _ c.requires.b_value q c.args.number c.args.before.now c.args.area.now (rw (y.0, y.1) at c.requires.tables_room) in
    record { at_in_bounds = (header-as 8 _ _ _ q c.requires.header_in_bounds.0, c.requires.header_in_bounds.1); count_in_bounds = x.1; b_value = x.0 }

pub returns-in-4 : goal.returns-in-4
returns-in-4 c =
    rw c.in-4.is c.put_table.ensures

pub returns-in-5 : goal.returns-in-5
returns-in-5 c =
    rw c.in-5.is ((fills_definitions _ _ _ _ c.requires.b_value (rw c.in-5.is at c.requires.kind_value) c.args.number c.args.before.now c.args.area.now (rw c.in-5.is at c.requires.tables_room)).2 _ c.fill_definitions.ensures)

pub returns-in-6 : goal.returns-in-6
returns-in-6 c =
    let q = eqb-true (number c.args.kind) 2 (rw c.in-6.is at c.requires.kind_value) in
    rw c.in-6.is ((fills_events _ _ _ _ c.requires.b_value q c.args.number c.args.before.now c.args.area.now (rw c.in-6.is at c.requires.tables_room)).2 _ c.fill_events.ensures)

pub returns-in-7 : goal.returns-in-7
returns-in-7 c =
    let q = eqb-true (number c.args.kind) 5 (rw c.in-7.is at c.requires.kind_value) in
    rw c.in-7.is ((fills_maps _ _ _ _ c.requires.b_value q c.args.number c.args.before.now c.args.area.now (rw c.in-7.is at c.requires.tables_room)).3 _ _ c.fill_maps.ensures.value c.fill_maps.ensures.area_after)

pub returns-in-8 : goal.returns-in-8
returns-in-8 c =
    let q = eqb-true (number c.args.kind) 5 (rw c.in-8.is at c.requires.kind_value) in
    rw c.in-8.is ((fills_entries _ _ _ _ c.requires.b_value q c.args.number c.args.before.now c.args.area.now (rw c.in-8.is at c.requires.tables_room)).2 _ _ c.fill_entries.ensures.value c.fill_entries.ensures.area_after)

pub returns-in-12 : goal.returns-in-12
returns-in-12 c =
    let q = eqb-true (number c.args.kind) 8 (rw c.in-12.is at c.requires.kind_value) in
    rw c.in-12.is ((fills_items _ _ _ _ c.requires.b_value q c.args.number c.args.before.now c.args.area.now (rw c.in-12.is at c.requires.tables_room)).3 _ _ c.fill_items.ensures.value c.fill_items.ensures.area_after)

pub returns-in_default : goal.returns-in_default
returns-in_default c =
    let q = eqb-true (number c.args.kind) 8 (sym (as_templates c.args.list c.in_default.in_default-own.rest.0.0.0.0.0.1 c.in_default.in_default-own.rest.0.0.0.0.1 c.in_default.in_default-own.rest.0.0.0.1 c.in_default.in_default-own.rest.0.0.1 c.in_default.in_default-own.rest.0.1 c.in_default.in_default-own.rest.1 (number c.args.kind)) ∙ c.requires.kind_value) in
    let y = parts-templates c.args.list c.in_default.in_default-own.rest.0.0.0.0.0.1 c.in_default.in_default-own.rest.0.0.0.0.1 c.in_default.in_default-own.rest.0.0.0.1 c.in_default.in_default-own.rest.0.0.1 c.in_default.in_default-own.rest.0.1 c.in_default.in_default-own.rest.1 c.args.number c.args.before.now (run (table_at (number c.args.kind) c.args.at c.args.h) c.args.b.now) in
    rw (y.0, y.1) ((fills_templates _ _ _ _ c.requires.b_value q c.args.number c.args.before.now c.args.area.now (rw (y.0, y.1) at c.requires.tables_room)).2 _ c.fill.ensures)
