-- Each place is answered as the definition answers it.
use Rattle.std.specs.Prelude.{Err}
use mathlib.Core.Path.{ap}
use Rattle.blob.specs.Reading.{run}
use Rattle.format.specs.Template.{items_at}
use Rattle.template.proofs.items_at.Goals as goal

pub returns-in-At : goal.returns-in-At
unfolding run items_at
returns-in-At c = rw c.in-At.is

pub returns-in-Before : goal.returns-in-Before
unfolding run items_at
returns-in-Before c = rw c.in-Before.is (ap Err c.offset_out.ensures)

pub returns-in-Past : goal.returns-in-Past
unfolding run items_at
returns-in-Past c = rw c.in-Past.is (ap Err c.offset_out-in-Past.ensures)
