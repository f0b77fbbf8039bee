-- By the owner.
use mathlib.Core.Path.{ap, sym, ◌∙◌}
use lib.ListN.{length}
use Rattle.indexer.specs.Left.{mine-none, mine-one}
use Rattle.indexer.proofs.size_entry.Goals as goal

pub returns-then-owner-eq-NOBODY : goal.returns-then-owner-eq-NOBODY
returns-then-owner-eq-NOBODY c = ap length (sym (mine-none _ _ c.if-owner-eq-NOBODY.true))

pub returns : goal.returns
returns c = c.size_all.ensures ∙ ap length (mine-one _ _ c.if-owner-eq-NOBODY.false _ c.entry_of-numbers.ensures)
