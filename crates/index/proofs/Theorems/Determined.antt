-- The promises leave one answer, and what is lent one way; a refusal keeps all of it and gives nothing.
use Rattle.std.specs.Prelude.{ℕ, ◌≡◌, refl, List, Result}
use Rattle.std.proofs.Common.{sym, ◌∙◌}
use Rattle.blob.specs.Reading.{Outcome, refused}
use Rattle.blob.specs.declared.Refusal.{Refusal}
use Rattle.index.specs.Index.{given, held, AllowedRead, AllowedWrite}
use Rattle.format.specs.Call.{given_number}
use Rattle.index.specs.Call.{AllowedCall}

pub determined_read : (bytes lent : List ℕ) (a b : Result ℕ Refusal) (after after' : List ℕ) → AllowedRead bytes lent a after → AllowedRead bytes lent b after' → (a ≡ b) × (after ≡ after')
determined_read bytes lent a b after after' h k = (h.answered ∙ sym k.answered, h.kept ∙ sym k.kept)

pub determined_write : (words capacities counts lent : List ℕ) (a b : Result ℕ Refusal) (after after' : List ℕ) → AllowedWrite words capacities counts lent a after
    → AllowedWrite words capacities counts lent b after' → (a ≡ b) × (after ≡ after')
determined_write words capacities counts lent a b after after' h k = (h.answered ∙ sym k.answered, h.kept ∙ sym k.kept)

-- and so over the C boundary
pub determined_call : (found : Outcome (List ℕ)) (lent numbers : List ℕ) (c d : ℕ) (w v l m : List ℕ) → AllowedCall found lent numbers c w l → AllowedCall found lent numbers d v m
    → (c ≡ d) × (w ≡ v) × (l ≡ m)
determined_call found lent numbers c d w v l m h g = (h.coded ∙ sym g.coded, h.kept ∙ sym g.kept, h.numbered ∙ sym g.numbered)

pub refusal-keeps : (lent : List ℕ) (r : Refusal) → held lent (refused r) ≡ lent
refusal-keeps lent r = refl

pub refusal-gives_none : (r : Refusal) → given_number (given (refused r)) ≡ 0
refusal-gives_none r = refl
