-- The invariant: what is left decides. The entries that are left, laid from here, make the area what it shall be.
use mathlib.Core.Path.{sym, ◌∙◌}
use native.Mathlib.Omega.{arith}
use Rattle.blob.proofs.Laws.{rest-next, rest-none}
use Rattle.format.specs.Definition.{step}
use Rattle.format.specs.Map.{entry_at}
use Rattle.format.specs.Lists.{map_entry_words}
use Rattle.map.specs.Decides.{entry_found, entries-fine}
use Rattle.map.proofs.put_entries.Goals as goal

pub loop-i-preserved : goal.loop-i-preserved
loop-i-preserved c =
    c.loop-i.invariant ∙ rest-next entry_at (step 8) map_entry_words _ _ _ _ _ _ _ _ _ _ c.put_entry.ensures (omega arith) (entry_found _ _) (entries-fine _ _ _) (omega arith) (omega arith)

pub returns : goal.returns
returns c = sym (c.loop-i.invariant ∙ rest-none entry_at (step 8) map_entry_words _ _ _ _ _ (omega arith))
