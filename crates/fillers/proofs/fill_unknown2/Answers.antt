-- The invariant: what is left decides. A word is never refused, so the rest is fine.
use Rattle.std.specs.Prelude.{Ok}
use Prim.Native.Nat.{ℕ, ◌*◌}
use mathlib.Core.Path.{◌≡◌, ap, sym, ◌∙◌}
use mathlib.Core.List.{List, [], ◌∷◌}
use native.Mathlib.Omega.{arith}
use Rattle.blob.specs.Reading.{run, number, many, verdict}
use Rattle.blob.proofs.Laws.{finds-number, many-fine, rest-next, rest-none}
use Rattle.blob.specs.Laid.{laid}
use Rattle.format.specs.Definition.{step}
use Rattle.format.specs.Lists.{unknown2_words}
use Rattle.fillers.proofs.fill_unknown2.Goals as goal

-- the words that are left are fine
fine : (s : List ℕ) (n at : ℕ) → verdict (run (many (number 4) (step 4) n at) s) ≡ Ok tt
fine s = many-fine (number 4) (step 4) s (λ at. (_, finds-number 4 at s))

pub loop-i-preserved : goal.loop-i-preserved
loop-i-preserved c =
    let laid-word = c.put.ensures ∙ ap (λ x. laid c.loop-i.area (1 * c.loop-i.i) (x ∷ [])) c.word.ensures in
    c.loop-i.invariant ∙ rest-next (number 4) (step 4) unknown2_words _ _ _ _ _ _ _ _ _ _ laid-word (omega arith) (finds-number 4 _ _) (fine _ _ _) (omega arith) (omega arith)

pub returns-clause-area_after : goal.returns-clause-area_after
returns-clause-area_after c = sym (c.loop-i.invariant ∙ rest-none (number 4) (step 4) unknown2_words _ _ _ _ _ (omega arith))
