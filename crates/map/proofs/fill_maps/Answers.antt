-- The maps of the MAPS are the row of maps (`maps-listed`), and a MAPS that is fine has its region and room for the offsets.
use mathlib.Core.Path.{ap, sym, ◌∙◌}
use native.Mathlib.Omega.{arith}
use Rattle.blob.specs.Reading.{verdict}
use Rattle.blob.proofs.Laws.{bind_fine}
use Rattle.format.specs.Map.{maps_at}
use Rattle.format.proofs.Theorems.Ends.{region-bounds}
use Rattle.map.specs.Listed.{maps-room, maps-listed}
use borrow.Author.Rules.{rules}
use Rattle.map.proofs.fill_maps.Goals as goal

pub unwrap-end-requires : goal.unwrap-end-requires
unfolding maps_at
unwrap-end-requires c = let r = bind_fine _ _ _ c.requires.b_value in rw (c.region_end.ensures, r.1) (search rules)

pub put_maps-requires : goal.put_maps-requires
put_maps-requires c =
    let f = sym c.unwrap-end.ensures ∙ c.region_end.ensures in
    let room = maps-room _ _ _ _ f (omega arith) c.requires.b_value in
    let l = maps-listed _ _ _ _ f room in
    record { end_in_bounds = ((region-bounds _ _ _ 16 _ (search rules) _ f).1, room, search rules); b_value = ap verdict (sym l) ∙ c.requires.b_value; n_in_bounds = search rules; b_bound = rw l at c.requires.b_bound }

pub returns : goal.returns
returns c =
    let f = sym c.unwrap-end.ensures ∙ c.region_end.ensures in
    rw (maps-listed _ _ _ _ f (maps-room _ _ _ _ f (omega arith) c.requires.b_value)) c.put_maps.ensures
