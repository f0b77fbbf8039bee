use Rattle.std.specs.Prelude.{Ok, Err}
use Rattle.blob.proofs.Laws.{answer-refused, handed_on}
use Prim.Native.Nat.{ℕ, ◌+◌, ◌*◌}
use mathlib.Core.Path.{◌≡◌, refl, ap, sym, ◌∙◌}
use lib.ListN.{length}
use mathlib.Core.List.{List}
use native.Mathlib.Omega.{arith}
use Rattle.format.specs.Area.{AREAS}
use Rattle.format.specs.Answer.{answer, held}
use Rattle.areas.specs.Areas.{lent_both}
use Rattle.manifest.specs.Stored.{store_refused, store_roomy, store_done, store_counted}
use Rattle.manifest.proofs.store.Goals as goal

pub fill_areas-requires : goal.fill_areas-requires
fill_areas-requires c =
    let each_row : length c.args.capacities ≡ AREAS = omega (arith, c.well_formed) in
    record { n_in_bounds = c.requires.count_in_bounds; b_value = c.requires.b_value; needs_value = c.requires.needs_value; roomy = store_roomy c.args.h c.args.b.now c.args.capacities c.args.needs each_row c.requires.count_in_bounds.0 c.requires.b_value c.requires.needs_value.0 (lent_both c.args.capacities c.args.words.now c.requires.needs_value.1).0 c.in_ok-room.ensures }

pub returns-in_err-room : goal.returns-in_err-room
unfolding held
returns-in_err-room c =
    let each_row : length c.args.capacities ≡ AREAS = omega (arith, c.well_formed) in
    let x = store_refused c.args.h c.args.b.now c.args.capacities c.args.needs each_row c.requires.count_in_bounds.0 c.requires.b_value c.requires.needs_value.0 (lent_both c.args.capacities c.args.words.now c.requires.needs_value.1).0 _ c.in_err-room.ensures in
    record { value = handed_on c.from_residual.ensures.1 (answer-refused _ Err _ _ _ refl x); words_after = sym (ap (held _ _) x) }

pub returns : goal.returns
unfolding answer held
returns c =
    let each_row : length c.args.capacities ≡ AREAS = omega (arith, c.well_formed) in
    let q = c.in_ok-room.ensures in
    let x = store_done c.args.h c.args.b.now c.args.capacities c.args.needs each_row c.requires.count_in_bounds.0 c.requires.b_value c.requires.needs_value.0 (lent_both c.args.capacities c.args.words.now c.requires.needs_value.1).0 q in
    let y = store_counted c.args.h c.args.b.now c.args.capacities c.args.needs each_row c.requires.count_in_bounds.0 c.requires.b_value c.requires.needs_value.0 (lent_both c.args.capacities c.args.words.now c.requires.needs_value.1).0 q in
    record {
      value = rw x (ap Ok (c.accept.ensures ∙ ap (λ (n : List ℕ). record { code = 0; field = 0; place = 0; first = c.args.h.size; second = c.args.h.major + 65536 * c.args.h.minor; counts = n }) y));
      words_after = rw x c.fill_areas.ensures;
    }
