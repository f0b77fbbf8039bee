-- The table's TEMPs are those of its region.
use Rattle.template.specs.Templates.{ends_there}
use Rattle.template.proofs.fill_items.Goals as goal

pub returns : goal.returns
returns c =
    rw (ends_there _ c.args.h _ _ c.requires.at_in_bounds.0 c.region_of.ensures).told c.fill_items_until.ensures

pub fill_items_until-requires : goal.fill_items_until-requires
fill_items_until-requires c =
    let e = ends_there _ c.args.h _ _ c.requires.at_in_bounds.0 c.region_of.ensures in
    record {
      start_le_end = (e.behind, e.inside, c.requires.at_in_bounds.1, c.requires.at_in_bounds.2);
      b_value = rw e.told at c.requires.b_value;
      b_in_bounds = rw e.told at c.requires.b_in_bounds;
    }
