-- What the proofs of a call rest on.
use Prim.Native.Nat.{ℕ}
use Rattle.std.specs.Prelude.{Bool, true, false, ◌≡◌, refl, List, [], ◌∷◌, length, leb}
use Rattle.std.proofs.Common.{ap, sym, ◌∙◌, append-nil}
use native.Mathlib.Omega.{arith}
use Rattle.blob.specs.Laid.{laid, laid-between, laid-whole}
use Rattle.blob.specs.Reading.{refused, choose}
use Rattle.format.specs.Answer.{answer, needing, held, own}
use Rattle.format.proofs.Theorems.Determined.{needs_refused}
use Rattle.format.specs.Call.{misfit}

-- a call that misfits touches no word
pub misfit-keeps : (words : List ℕ) (capacities : List ℕ) (bytes : List ℕ) → words ≡ held words capacities (misfit bytes)
unfolding held
misfit-keeps words capacities bytes = either (leb (length bytes) 16777216)
  where
    either : (b : Bool) → words ≡ held words capacities (choose b (refused (own 8)) (refused (own 7)))
    either true = refl
    either false = refl

-- and is told as a reading tells it
pub misfit-needs : (bytes : List ℕ) → needing (misfit bytes) ≡ answer (misfit bytes)
misfit-needs bytes = either (leb (length bytes) 16777216)
  where
    either : (b : Bool) → needing (choose b (refused (own 8)) (refused (own 7))) ≡ answer (choose b (refused (own 8)) (refused (own 7)))
    either true = needs_refused (own 8)
    either false = needs_refused (own 7)

-- numbers laid behind five others
pub laid-behind_five : (a b c d e : ℕ) (l ws : List ℕ) → length l ≡ length ws → laid (a ∷ b ∷ c ∷ d ∷ e ∷ l) 5 ws ≡ a ∷ b ∷ c ∷ d ∷ e ∷ ws
laid-behind_five a b c d e l ws h =
    sym (simp append-nil at (laid-between (a ∷ b ∷ c ∷ d ∷ e ∷ []) l [] 0 ws (omega arith))) ∙ ap (λ (x : List ℕ). a ∷ b ∷ c ∷ d ∷ e ∷ x) (laid-whole l ws h)
