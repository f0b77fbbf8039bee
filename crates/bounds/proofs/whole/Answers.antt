-- What `has_room` answers is the test by which the definition asks for room.
use mathlib.Core.Path.{sym, ◌∙◌}
use Rattle.blob.specs.Reading.{run}
use Rattle.bounds.proofs.whole.Goals as goal

pub returns-then-has_room : goal.returns-then-has_room
unfolding run
returns-then-has_room c = rw (sym c.before.has_room.ensures ∙ c.if-has_room.true)

pub returns : goal.returns
unfolding run
returns c = rw (sym c.before.before.has_room.ensures ∙ c.before.if-has_room.false, c.truncated.ensures)
