-- What a call over the C boundary finds, and what the lent numbers then hold. The lent words hold what `held` says of it, the lent list
-- of GUIDs what `guids_held` says.
use Rattle.std.specs.Prelude.{ℕ, ◌+◌, ◌≡◌, Bool, ◌&&◌, List, [], ◌∷◌, length, get_or, eqb, leb, Ok, Err, Result, Some, None, Option}
use Rattle.blob.specs.Reading.{Outcome, refused, choose}
use Rattle.blob.specs.declared.Refusal.{Refusal}
use Rattle.format.specs.Area.{rows}
use Rattle.format.specs.Lists.{Entry}
use Rattle.format.specs.Answer.{own, block, reading, answer, needing, held}
use Rattle.format.specs.Crim.{Crim}
use Rattle.format.specs.Lookup.{by_offset, by_key, guids_found, guids_held}
use Rattle.format.specs.Says.{template_says, guids_says}
use Rattle.format.specs.declared.Answer.{Answer}
use Rattle.format.specs.declared.Key.{Key}

-- what the lent numbers hold after a call whose answer has such numbers: these, where as many are lent
unfoldable pub told : List ℕ → List ℕ → List ℕ
told lent numbers = choose (eqb (length lent) (length numbers)) numbers lent

-- "`answer` has 15 numbers: code, field, place, first, second, the ten counts; the code is also returned. Ten capacities and 15 numbers
-- are expected; any other length of either answers 8 (7 still comes first; written to `answer` where that has 15), and nothing else is
-- touched." Eleven of each and 16 numbers since request 01
abbrev pub numbers : Answer → List ℕ
numbers a = a.code ∷ a.field ∷ a.place ∷ a.first ∷ a.second ∷ a.counts

-- what a call with another number of capacities, or of numbers for the answer, finds
abbrev pub misfit : List ℕ → Outcome Crim
misfit bytes = choose (leb (length bytes) 16777216) (refused (own 8)) (refused (own 7))

-- what a call finds in lent bytes, with lent words, capacities and so many numbers
unfoldable pub called : List ℕ → List ℕ → List ℕ → ℕ → Outcome Crim
called bytes words capacities n =
    choose (eqb (length capacities) (length rows) && eqb n (5 + length rows)) (reading bytes words capacities) (misfit bytes)

-- "`ducat_needs` .. answers 7 and 1 to 6 as `ducat_read` does, and 0 for all other bytes": what a call for the needs finds, with so many
-- numbers; another number than `ducat_read`'s misfits
unfoldable pub called_needs : List ℕ → ℕ → Outcome Crim
called_needs bytes n = choose (eqb n (5 + length rows)) (block bytes) (misfit bytes)

-- the numbers of a lookup's answer: what its result says, and what was found
abbrev pub said : Refusal → List ℕ → List ℕ
said r found = r.code ∷ r.place ∷ r.first ∷ r.second ∷ found

-- "`answer` has 6 numbers, code, place, first, second, found (0 or 1), number"; "found, number and GUIDs given are 0 where nothing is
-- found and on a refusal"
abbrev pub found_numbers : Result (Option ℕ) Refusal → List ℕ
found_numbers (Ok (Some n)) = 1 ∷ n ∷ []
found_numbers (Ok None) = 0 ∷ 0 ∷ []
found_numbers (Err r) = 0 ∷ 0 ∷ []

abbrev pub template_numbers : Result (Option ℕ) Refusal → List ℕ
template_numbers f = said (template_says f) (found_numbers f)

-- "A wrong length of `capacities`, `counts`, `key` or `answer` answers 8"
abbrev pub each_row : List ℕ → List ℕ → Bool
each_row capacities counts = eqb (length capacities) (length rows) && eqb (length counts) (length rows)

unfoldable pub called_at : (words capacities counts : List ℕ) → (provider first count offset n : ℕ) → Result (Option ℕ) Refusal
called_at words capacities counts provider first count offset n =
    choose (each_row capacities counts && eqb n 6)
    (by_offset words capacities counts provider first count offset)
    (Err (own 8))

-- "`key` has 12 words (GUID 4, event_id, version, channel, level, opcode, task, keywords low, high)"
abbrev pub key_of : List ℕ → Key
key_of l =
    record {
      guid = record { a = get_or l 0 0; b = get_or l 1 0; c = get_or l 2 0; d = get_or l 3 0 };
      identifier = get_or l 4 0;
      version = get_or l 5 0;
      channel = get_or l 6 0;
      level = get_or l 7 0;
      opcode = get_or l 8 0;
      task = get_or l 9 0;
      low = get_or l 10 0;
      high = get_or l 11 0;
    }

-- "`answer` has 5 numbers, code, place, first, second, GUIDs given"
abbrev pub given_number : Result ℕ Refusal → ℕ
given_number (Ok n) = n
given_number (Err r) = 0

abbrev pub guid_numbers : Result ℕ Refusal → List ℕ
guid_numbers f = said (guids_says f) (given_number f ∷ [])

unfoldable pub called_for : (words capacities counts key lent : List ℕ) → ℕ → Outcome (List Entry)
called_for words capacities counts key lent n =
    choose (each_row capacities counts && (eqb (length key) 12 && eqb n 5))
    (by_key words capacities counts (key_of key) lent)
    (refused (own 8))

-- What each call may answer and leave in what it is lent: this, and nothing else. It is what the functions promise.
pub record AllowedRead (bytes words capacities lent : List ℕ) (code : ℕ) (words' lent' : List ℕ) : Type 0 where
  pub coded : code ≡ (answer (called bytes words capacities (length lent))).code
  pub numbered : lent' ≡ told lent (numbers (answer (called bytes words capacities (length lent))))
  pub kept : words' ≡ held words capacities (called bytes words capacities (length lent))

pub record AllowedNeeds (bytes lent : List ℕ) (code : ℕ) (lent' : List ℕ) : Type 0 where
  pub coded : code ≡ (needing (called_needs bytes (length lent))).code
  pub numbered : lent' ≡ told lent (numbers (needing (called_needs bytes (length lent))))

pub record AllowedTemplate (words capacities counts : List ℕ) (provider first count offset : ℕ) (lent : List ℕ) (code : ℕ) (lent' : List ℕ) : Type 0 where
  pub coded : code ≡ get_or (template_numbers (called_at words capacities counts provider first count offset (length lent))) 0 0
  pub numbered : lent' ≡ told lent (template_numbers (called_at words capacities counts provider first count offset (length lent)))

pub record AllowedGuids (words capacities counts key guids lent : List ℕ) (code : ℕ) (guids' lent' : List ℕ) : Type 0 where
  pub coded : code ≡ get_or (guid_numbers (guids_found (called_for words capacities counts key guids (length lent)))) 0 0
  pub numbered : lent' ≡ told lent (guid_numbers (guids_found (called_for words capacities counts key guids (length lent))))
  pub kept : guids' ≡ guids_held guids (called_for words capacities counts key guids (length lent))
