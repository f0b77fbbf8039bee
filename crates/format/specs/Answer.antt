-- The answer of a reading, what the lent words then hold, and what each list needs.
-- "Order: 7, 8, then the first of 1 to 6 in reading order, then 9 for the lowest-numbered list needing more entries than its capacity,
-- given exactly when the definition accepts and there is one. A refusal touches no lent word; on 0 the needed entries are written, all
-- other words kept." (the answer)
use Rattle.std.specs.Prelude.{ℕ, ◌+◌, ◌*◌, min, ◌≡◌, Bool, true, ◌&&◌, List, [], ◌∷◌, map, length, leb}
use Rattle.blob.specs.declared.Refusal.{Refusal}
use Rattle.blob.specs.Reading.{Outcome, done, refused, choose, then}
use Rattle.blob.specs.Laid.{laid, flat}
use Rattle.format.specs.Area.{Row, rows, none}
use Rattle.format.specs.Lists.{Entry, lists}
use Rattle.format.specs.Crim.{Crim, crim}
use Rattle.format.specs.declared.Answer.{Answer}

-- "7 | lent bytes over 16,777,216 | 0; 0, 0", and so 8 and 10. "Codes 7 to 10 are the port's own."
abbrev pub own : ℕ → Refusal
own code = record { code = code; field = 0; place = 0; first = 0; second = 0 }

-- "9 | accepted bytes, list too small | 0; list number, capacity"
abbrev pub too_small : ℕ → ℕ → Refusal
too_small number capacity = record { code = 9; field = 0; place = 0; first = number; second = capacity }

-- no capacity is over 65,536
unfoldable pub moderate : List ℕ → Bool
moderate [] = true
moderate (c ∷ cs) = leb c 65536 && moderate cs

-- the words of areas of so many entries each
unfoldable pub areas : List Row → List ℕ → ℕ
areas rs [] = 0
areas [] (c ∷ cs) = 0
areas (r ∷ rs) (c ∷ cs) = c * r.words + areas rs cs

-- "8 | a capacity over 65,536, or lent words fewer than the areas need"
abbrev pub lent_enough : List ℕ → List ℕ → Bool
lent_enough capacities words = moderate capacities && leb (areas rows capacities) (length words)

-- a value where each list has room for its entries; else 9 for the first that has not
unfoldable pub with_room : {A : Type 0} → List Row → List ℕ → List (List Entry) → A → Outcome A
with_room [] cs ls a = done a
with_room (r ∷ rs) [] ls a = done a
with_room (r ∷ rs) (c ∷ cs) [] a = done a
with_room (r ∷ rs) (c ∷ cs) (l ∷ ls) a = choose (leb (length l) c) (with_room rs cs ls a) (refused (too_small r.number c))

-- what is read of lent bytes, with lent words and a capacity for each list
unfoldable pub reading : List ℕ → List ℕ → List ℕ → Outcome Crim
reading bytes words capacities =
    choose (leb (length bytes) 16777216)
    (choose (lent_enough capacities words)
    (then (crim bytes) (λ c. with_room rows capacities (lists c.providers) c))
    (refused (own 8)))
    (refused (own 7))

-- "ten entry counts", eleven since request 01: the lists' lengths
abbrev pub counted : List (List Entry) → List ℕ
counted ls = map (λ l. length l) ls

-- "One code, a field code, a place, two 64-bit numbers, and ten entry counts (zero on a refusal)"; "0 | accepted | 0; CRIM.size,
-- major + 65,536 × minor"
unfoldable pub answer : Outcome Crim → Answer
answer (done c) =
    record {
      code = 0;
      field = 0;
      place = 0;
      first = c.header.size;
      second = c.header.major + 65536 * c.header.minor;
      counts = counted (lists c.providers);
    }
answer (refused r) =
    record { code = r.code; field = r.field; place = r.place; first = r.first; second = r.second; counts = none }

-- what is read of lent bytes, whatever is lent for the lists
unfoldable pub block : List ℕ → Outcome Crim
block bytes = choose (leb (length bytes) 16777216) (crim bytes) (refused (own 7))

-- "a number stops rising at 65,537" (what each list needs): no capacity is over 65,536, so no more is ever asked
abbrev pub capped : ℕ → ℕ
capped n = min n 65537

-- the answer that tells what each list needs: its counts stop rising, and all else is as `answer` says
unfoldable pub needing : Outcome Crim → Answer
needing o =
    record {
      code = (answer o).code;
      field = (answer o).field;
      place = (answer o).place;
      first = (answer o).first;
      second = (answer o).second;
      counts = map capped (answer o).counts;
    }

-- "One lent run of 32-bit words holds ten areas, each starting where the one before ends, in this order" (the lists; eleven since
-- request 01): the words, with each list's entries laid from its area's start on
unfoldable pub filled : List ℕ → ℕ → List Row → List ℕ → List (List Entry) → List ℕ
filled words at [] cs ls = words
filled words at (r ∷ rs) [] ls = words
filled words at (r ∷ rs) (c ∷ cs) [] = words
filled words at (r ∷ rs) (c ∷ cs) (l ∷ ls) = filled (laid words at (flat (λ e. e) l)) (at + c * r.words) rs cs ls

-- what the lent words hold after a reading
unfoldable pub held : List ℕ → List ℕ → Outcome Crim → List ℕ
held words capacities (done c) = filled words 0 rows capacities (lists c.providers)
held words capacities (refused r) = words

-- What a reading may answer and leave in the lent words, and what the needs may be: this, and nothing else. It is what the code promises.
pub record Allowed (bytes words capacities : List ℕ) (a : Answer) (after : List ℕ) : Type 0 where
  pub answered : a ≡ answer (reading bytes words capacities)
  pub kept : after ≡ held words capacities (reading bytes words capacities)

pub record NeedsAllowed (bytes : List ℕ) (a : Answer) : Type 0 where
  pub answered : a ≡ needing (block bytes)
