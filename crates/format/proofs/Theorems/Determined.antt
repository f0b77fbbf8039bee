-- Nothing is left open: the answer and the lent words are functions of the blob, the words and the capacities, so any two answers that
-- the contract allows are equal; each count is the length of its list, and a refusal's are zero.
use Rattle.std.specs.Prelude.{ℕ, ◌≡◌, refl, List, map, length, Result, Option}
use Rattle.std.proofs.Common.{sym, ◌∙◌}
use Rattle.blob.specs.declared.Refusal.{Refusal}
use Rattle.blob.specs.Reading.{done, refused}
use Rattle.format.specs.Crim.{Crim}
use Rattle.format.specs.Area.{none}
use Rattle.format.specs.Lists.{lists}
use Rattle.format.specs.Answer.{answer, needing, held, Allowed, NeedsAllowed}
use Rattle.format.specs.Lookup.{AllowedAt, AllowedFor}
use Rattle.format.specs.Handle.{AllowedPart}
use Rattle.format.specs.Call.{AllowedRead, AllowedNeeds, AllowedTemplate, AllowedGuids}
use Rattle.format.specs.declared.Answer.{Answer}
use Rattle.format.specs.declared.Key.{Key}

pub determined : (bytes words capacities : List ℕ) (a b : Answer) (after after' : List ℕ)
    → Allowed bytes words capacities a after → Allowed bytes words capacities b after' → (a ≡ b) × (after ≡ after')
determined bytes words capacities a b after after' h g = (h.answered ∙ sym g.answered, h.kept ∙ sym g.kept)

pub needs_determined : (bytes : List ℕ) (a b : Answer) → NeedsAllowed bytes a → NeedsAllowed bytes b → a ≡ b
needs_determined bytes a b h g = h.answered ∙ sym g.answered

-- so of the lookups, and of what a handle shows
module _ (words capacities counts : List ℕ) where
  pub determined_at : (provider first count offset : ℕ) (f g : Result (Option ℕ) Refusal) → AllowedAt words capacities counts provider first count offset f
      → AllowedAt words capacities counts provider first count offset g → f ≡ g
  determined_at provider first count offset f g h k = h.answered ∙ sym k.answered

  pub determined_for : (key : Key) (lent : List ℕ) (f g : Result ℕ Refusal) (after after' : List ℕ) → AllowedFor words capacities counts key lent f after
      → AllowedFor words capacities counts key lent g after' → (f ≡ g) × (after ≡ after')
  determined_for key lent f g after after' h k = (h.answered ∙ sym k.answered, h.kept ∙ sym k.kept)

pub determined_part : (bytes : List ℕ) (size start len : ℕ) (p q : List ℕ) → AllowedPart bytes size start len p → AllowedPart bytes size start len q → p ≡ q
determined_part bytes size start len p q h k = h ∙ sym k

-- and so over the C boundary
pub determined_read : (bytes words capacities lent : List ℕ) (c d : ℕ) (w v l m : List ℕ)
    → AllowedRead bytes words capacities lent c w l → AllowedRead bytes words capacities lent d v m → (c ≡ d) × (w ≡ v) × (l ≡ m)
determined_read bytes words capacities lent c d w v l m h g = (h.coded ∙ sym g.coded, h.kept ∙ sym g.kept, h.numbered ∙ sym g.numbered)

pub determined_needs : (bytes lent : List ℕ) (c d : ℕ) (l m : List ℕ) → AllowedNeeds bytes lent c l → AllowedNeeds bytes lent d m → (c ≡ d) × (l ≡ m)
determined_needs bytes lent c d l m h g = (h.coded ∙ sym g.coded, h.numbered ∙ sym g.numbered)

pub determined_template : (words capacities counts : List ℕ) (provider first count offset : ℕ) (lent : List ℕ) (c d : ℕ) (l m : List ℕ)
    → AllowedTemplate words capacities counts provider first count offset lent c l → AllowedTemplate words capacities counts provider first count offset lent d m → (c ≡ d) × (l ≡ m)
determined_template words capacities counts provider first count offset lent c d l m h g = (h.coded ∙ sym g.coded, h.numbered ∙ sym g.numbered)

pub determined_guids : (words capacities counts key guids lent : List ℕ) (c d : ℕ) (w v l m : List ℕ)
    → AllowedGuids words capacities counts key guids lent c w l → AllowedGuids words capacities counts key guids lent d v m → (c ≡ d) × (w ≡ v) × (l ≡ m)
determined_guids words capacities counts key guids lent c d w v l m h g = (h.coded ∙ sym g.coded, h.kept ∙ sym g.kept, h.numbered ∙ sym g.numbered)

-- the counts of an accepted blob are the lengths of its lists
pub counts-are_lengths : (c : Crim) → (answer (done c)).counts ≡ map (λ l. length l) (lists c.providers)
unfolding answer
counts-are_lengths c = refl

-- a refusal's are zero, and it keeps the lent words
pub refusal-counts_zero : (r : Refusal) → (answer (refused r)).counts ≡ none
unfolding answer
refusal-counts_zero r = refl

pub refusal-keeps : (words : List ℕ) (capacities : List ℕ) (r : Refusal) → held words capacities (refused r) ≡ words
unfolding held
refusal-keeps words capacities r = refl

-- a refusal is told by the needs as by a reading
pub needs_refused : (r : Refusal) → needing (refused r) ≡ answer (refused r)
unfolding needing answer
needs_refused r = refl
