-- Each field is what the definition says of a map that is no VMAP, by the callees' answers.
use Rattle.map.proofs.other_map.Goals as goal

pub returns : goal.returns
returns c = rw (c.cut.ensures, c.absent.ensures, c.pick.ensures)
