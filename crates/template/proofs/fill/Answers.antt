-- The table's TEMPs are those of its region.
use mathlib.Core.Path.{ap, sym, ◌∙◌}
use Rattle.blob.specs.Reading.{verdict}
use Rattle.template.specs.Templates.{ends_there}
use Rattle.template.proofs.fill.Goals as goal

pub fill_until-requires : goal.fill_until-requires
fill_until-requires c =
    let e = ends_there _ c.args.h _ _ c.requires.at_in_bounds.0 c.region_of.ensures in
    record { start_le_end = (e.behind, e.inside, c.requires.at_in_bounds.1); n_in_bounds = c.requires.count_in_bounds; b_value = sym (ap verdict e.told) ∙ c.requires.b_value }

pub returns : goal.returns
returns c =
    rw (ends_there _ c.args.h _ _ c.requires.at_in_bounds.0 c.region_of.ensures).told c.fill_until.ensures
