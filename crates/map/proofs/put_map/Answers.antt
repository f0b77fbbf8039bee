-- The twelve words, the last one by a cast.
use Rattle.name.specs.Ended.{ended-cast}
use Rattle.map.proofs.put_map.Goals as goal

pub returns : goal.returns
returns c =
    rw (← c.pick-first.ensures, ended-cast c.args.m.name) c.put.ensures
