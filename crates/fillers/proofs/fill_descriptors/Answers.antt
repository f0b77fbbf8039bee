-- The invariant: what is left decides. The rest, laid from here, makes the area what it shall be, and the rest is fine.
use mathlib.Core.Path.{sym, ◌∙◌}
use native.Mathlib.Omega.{arith}
use Rattle.blob.proofs.Laws.{many_next, rest-next, rest-none}
use Rattle.format.specs.Definition.{step}
use Rattle.format.specs.Lists.{descriptor_words}
use Rattle.format.specs.Provider.{descriptor_at}
use Rattle.element.specs.Elements.{next-described}
use Rattle.fillers.proofs.fill_descriptors.Goals as goal

pub descriptor_of-d-requires-clause-b_value : goal.descriptor_of-d-requires-clause-b_value
descriptor_of-d-requires-clause-b_value c = next-described _ _ _ (omega arith) c.loop-i.invariant.0

pub loop-i-preserved : goal.loop-i-preserved
loop-i-preserved c =
    let inv = c.loop-i.invariant in
    let found = c.descriptor_of-d.ensures in (
      sym (many_next descriptor_at (step 8) _ _ _ _ _ _ (omega arith) found (omega arith)) ∙ inv.0,
      inv.1 ∙ rest-next descriptor_at (step 8) descriptor_words _ _ _ _ _ _ _ _ _ _ c.put.ensures (omega arith) found inv.0 (omega arith) (omega arith),
    )

pub returns-clause-area_after : goal.returns-clause-area_after
returns-clause-area_after c = sym (c.loop-i.invariant.1 ∙ rest-none descriptor_at (step 8) descriptor_words _ _ _ _ _ (omega arith))
