-- What is left decides: the verdict of the descriptors that are left is that of all.
use Rattle.std.specs.Prelude.{Err}
use mathlib.Core.Path.{ap, sym, ◌∙◌}
use native.Mathlib.Omega.{arith}
use Rattle.blob.proofs.Laws.{many_next, many-stop, many-none}
use Rattle.format.specs.Definition.{step}
use Rattle.format.specs.Provider.{descriptor_at}
use Rattle.provider.specs.Wevt.{descriptor_past, descriptor_short, descriptor_found, furthest-fits}
use Rattle.provider.proofs.check_descriptors.Goals as goal

pub returns-then-b-place : goal.returns-then-b-place
returns-then-b-place c =
    ap Err c.offset_out.ensures
    ∙ sym (c.loop-i.invariant ∙ many-stop descriptor_at (step 8) _ _ _ _ (omega arith) (descriptor_past _ _ _ c.word-place.ensures (omega arith)))

pub returns-then-b-place-lt4 : goal.returns-then-b-place-lt4
returns-then-b-place-lt4 c =
    ap Err c.truncated.ensures
    ∙ sym (c.loop-i.invariant ∙ many-stop descriptor_at (step 8) _ _ _ _ (omega arith) (descriptor_short _ _ _ c.word-place.ensures (omega arith) (omega arith)))

pub loop-i-preserved : goal.loop-i-preserved
loop-i-preserved c =
    c.loop-i.invariant ∙ many_next descriptor_at (step 8) _ _ _ _ _ _ (omega arith) (descriptor_found _ _ _ c.word-place.ensures (omega arith)) (omega arith)

pub returns : goal.returns
returns c = sym (c.loop-i.invariant ∙ many-none descriptor_at (step 8) _ _ _ (omega arith))

pub returns-then-furthest-b : goal.returns-then-furthest-b
returns-then-furthest-b c = sym (furthest-fits _ _ _ (omega (arith, c.furthest.ensures)))
