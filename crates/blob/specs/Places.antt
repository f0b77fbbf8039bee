-- Places of bytes: some in a row, and those of records one after another.
use Prim.{Unit}
use Rattle.std.specs.Prelude.{ℕ, zero, suc, ◌+◌, List, [], ◌∷◌, ◌++◌}

-- what holds of each place
abbrev pub Each : (ℕ → Type 0) → List ℕ → Type 0
Each P [] = Unit {0}
Each P (p ∷ ps) = P p × Each P ps

-- n places in a row
unfoldable pub span : ℕ → ℕ → List ℕ
span at zero = []
span at (suc n) = at ∷ span (at + 1) n

-- the places of values one after another; the state is that of `many`
unfoldable pub rows : {S A : Type 0} → (S → A → List ℕ) → (A → S → S) → S → List A → List ℕ
rows q next at [] = []
rows q next at (a ∷ vs) = q at a ++ rows q next (next a at) vs
