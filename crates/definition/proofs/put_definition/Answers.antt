-- The thirteen words, the last one by a cast.
use Rattle.name.specs.Ended.{ended-cast}
use Rattle.definition.proofs.put_definition.Goals as goal

pub returns : goal.returns
returns c = rw (ended-cast c.args.d.name) c.put.ensures
