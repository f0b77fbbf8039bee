-- A table that was found fine has a region.
use Rattle.std.proofs.Common.{rules}
use Rattle.blob.proofs.Laws.{bind_fine}
use Rattle.format.specs.Template.{templates_at}
use Rattle.template.proofs.region_of.Goals as goal

pub unwrap-requires : goal.unwrap-requires
unfolding templates_at
unwrap-requires c = let b = bind_fine _ _ _ c.requires.b_value in rw (c.region_end.ensures, b.1) (search rules)
