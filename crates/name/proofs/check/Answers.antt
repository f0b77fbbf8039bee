-- A name at 0 is absent; any other is sized.
use mathlib.Core.Path.{ap, sym, ◌∙◌}
use Rattle.blob.specs.Reading.{run, verdict}
use Rattle.format.specs.Name.{name_at}
use Rattle.name.specs.Sized.{present}
use Rattle.name.proofs.check.Goals as goal

pub returns-then-offset-eq0 : goal.returns-then-offset-eq0
unfolding run name_at
returns-then-offset-eq0 c = rw c.if-offset-eq0.true

pub returns : goal.returns
returns c = c.check_sized.ensures ∙ sym (ap verdict (present _ _ _ _ c.if-offset-eq0.false))
