use mathlib.Core.Path.{refl}
use borrow.Author.Tests.{ne_eqb}
use Rattle.fillers.proofs.has_any.Goals as goal

pub returns-then-place-eq-NONE : goal.returns-then-place-eq-NONE
returns-then-place-eq-NONE c = rw c.if-place-eq-NONE.true refl

pub returns : goal.returns
returns c = rw (ne_eqb _ _ c.if-place-eq-NONE.false) c.has_entries.ensures
