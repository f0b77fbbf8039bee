-- What a call over the C boundary finds of an index, and what the lent numbers then hold; the lent bytes or words hold what `held` says.
use Rattle.std.specs.Prelude.{ℕ, ◌≡◌, ◌&&◌, List, [], ◌∷◌, get_or, eqb, Result}
use Rattle.blob.specs.Reading.{Outcome, refused, choose}
use Rattle.blob.specs.declared.Refusal.{Refusal}
use Rattle.format.specs.Answer.{own}
use Rattle.format.specs.Says as says
use Rattle.format.specs.Call.{told, said, each_row, given_number}
use Rattle.index.specs.Index.{reading, writing, given, held}

-- "answer of 5: code, place, first, second, bytes written", or words given
abbrev pub index_numbers : Result ℕ Refusal → List ℕ
index_numbers a = said (says.said (says.told a)) (given_number a ∷ [])

-- "Wrong lengths are 8 as everywhere."
unfoldable pub called_read : List ℕ → List ℕ → ℕ → Outcome (List ℕ)
called_read bytes lent n = choose (eqb n 5) (reading bytes lent) (refused (own 8))

unfoldable pub called_write : (words capacities counts lent : List ℕ) → ℕ → Outcome (List ℕ)
called_write words capacities counts lent n = choose (each_row capacities counts && eqb n 5) (writing words capacities counts lent) (refused (own 8))

-- What a call promises: its answer, by what it found and what it was lent.
pub record AllowedCall (found : Outcome (List ℕ)) (lent numbers : List ℕ) (code : ℕ) (lent' numbers' : List ℕ) : Type 0 where
  pub coded : code ≡ get_or (index_numbers (given found)) 0 0
  pub numbered : numbers' ≡ told numbers (index_numbers (given found))
  pub kept : lent' ≡ held lent found
