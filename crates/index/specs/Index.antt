-- The event index: what it holds, the bytes that it is written as, and how these are read back. "Write, and read back, an index of every
-- event with a found template." (request 05)
use Rattle.std.specs.Prelude.{ℕ, zero, suc, ◌+◌, ◌*◌, ◌/◌, ◌%◌, ◌≡◌, Bool, true, ◌&&◌, List, [], ◌∷◌, ◌++◌, map, length, take, drop, leb, eqb, Result}
use Rattle.blob.specs.Reading.{Outcome, done, refused, choose, then, as_result}
use Rattle.blob.specs.Laid.{laid, flat}
use Rattle.blob.specs.declared.Refusal.{Refusal}
use Rattle.number.specs.Number.{BYTE, HALF, WORD, LONG, form, fault, number_at}
use Rattle.format.specs.Area.{PROVIDERS, TABLES, EVENTS, TEMPLATES}
use Rattle.format.specs.Entry.{EVENT_TEMPLATE}
use Rattle.format.specs.Lists.{Entry}
use Rattle.format.specs.Answer.{own, too_small, lent_enough}
use Rattle.format.specs.Lookup.{entries_of, word_of, counts_fit, every, tables_fit, tables_own}
use Rattle.format.specs.Owner.{events_owned, found_events}

abbrev pub EDITION : ℕ
EDITION = 1

-- "9 with list 15 where the lent bytes or words are too few"
abbrev pub INDEX : ℕ
INDEX = 15

-- "per entry provider number, id, version, channel, level, opcode, task, keywords, template offset"; "Field widths are those of `EventKey`,
-- else 32 bits"
abbrev pub ENTRY : List ℕ
ENTRY = WORD ∷ HALF ∷ BYTE ∷ BYTE ∷ BYTE ∷ BYTE ∷ HALF ∷ LONG ∷ WORD ∷ []

-- a number by itself
abbrev pub ONE : List ℕ
ONE = WORD ∷ []

-- what an index holds: "each provider's unknown2 count", and the numbers of each entry
pub record Index : Type 0 where
  pub counts : List ℕ
  pub entries : List (List ℕ)

-- "Order: edition 1, provider count, each provider's unknown2 count, entry count, then per entry .."
abbrev pub numbers : Index → List ℕ
numbers i = EDITION ∷ length i.counts ∷ (i.counts ++ (length i.entries ∷ flat (λ e. e) i.entries))

abbrev pub written : Index → List ℕ
written i = flat form (numbers i)

-- Reading.
-- numbers of some widths from a place on, and the place behind them
pub record Row : Type 0 where
  pub numbers : List ℕ
  pub behind : ℕ

unfoldable pub row_at : List ℕ → List ℕ → ℕ → Outcome Row
row_at [] bytes at = done (record { numbers = []; behind = at })
row_at (w ∷ ws) bytes at =
    then (number_at w bytes at) (λ n. then (row_at ws bytes n.behind) (λ r. done (record { numbers = n.value ∷ r.numbers; behind = r.behind })))

-- so many rows of them
pub record Rows : Type 0 where
  pub rows : List (List ℕ)
  pub behind : ℕ

unfoldable pub rows_at : ℕ → List ℕ → List ℕ → ℕ → Outcome Rows
rows_at zero ws bytes at = done (record { rows = []; behind = at })
rows_at (suc n) ws bytes at =
    then (row_at ws bytes at) (λ r. then (rows_at n ws bytes r.behind) (λ rs. done (record { rows = r.numbers ∷ rs.rows; behind = rs.behind })))

-- "17 edition not 1, 18 bytes left over, first fault in reading order, placed at its first byte"
unfoldable pub index : List ℕ → Outcome Index
index bytes =
    then (number_at WORD bytes 0) (λ edition.
    choose (eqb edition.value EDITION)
    (then (number_at WORD bytes edition.behind) (λ providers.
    then (rows_at providers.value ONE bytes providers.behind) (λ counts.
    then (number_at WORD bytes counts.behind) (λ entries.
    then (rows_at entries.value ENTRY bytes entries.behind) (λ rows.
    choose (eqb rows.behind (length bytes)) (done (record { counts = flat (λ r. r) counts.rows; entries = rows.rows })) (refused (fault 18 rows.behind)))))))
    (refused (fault 17 0)))

-- "A read gives every number after the edition, in order, as 32-bit words (keywords low, high)"
abbrev pub number_words : ℕ → ℕ → List ℕ
number_words w n = choose (eqb w LONG) (n % 4294967296 ∷ n / 4294967296 ∷ []) (n ∷ [])

unfoldable pub row_words : List ℕ → List ℕ → List ℕ
row_words [] ns = []
row_words (w ∷ ws) [] = []
row_words (w ∷ ws) (n ∷ ns) = number_words w n ++ row_words ws ns

abbrev pub words : Index → List ℕ
words i = length i.counts ∷ (i.counts ++ (length i.entries ∷ flat (row_words ENTRY) i.entries))

-- "last, 9 with list 15 where the lent bytes or words are too few. Nothing written on any."
abbrev pub with_room : List ℕ → List ℕ → Outcome (List ℕ)
with_room lent given = choose (leb (length given) (length lent)) (done given) (refused (too_small INDEX (length lent)))

unfoldable pub reading : List ℕ → List ℕ → Outcome (List ℕ)
reading bytes lent = then (index bytes) (λ i. with_room lent (words i))

-- Writing.
-- the numbers of an event's entry, behind its provider's number
abbrev pub entry_of : Entry → List ℕ
entry_of f =
    let e = drop 1 f in
    take 7 f ++ ((word_of 6 e + 4294967296 * word_of 7 e) ∷ word_of EVENT_TEMPLATE e ∷ [])

abbrev pub UNKNOWN2_COUNT : ℕ
UNKNOWN2_COUNT = 8

-- none of some numbers is past its width
unfoldable pub fit : List ℕ → List ℕ → Bool
fit [] ns = true
fit (w ∷ ws) [] = true
fit (w ∷ ws) (n ∷ ns) = leb n w && fit ws ns

-- "10 for any event's field past its width"
abbrev pub fields_fit : Entry → Bool
fields_fit e = fit (HALF ∷ BYTE ∷ BYTE ∷ BYTE ∷ BYTE ∷ HALF ∷ []) e

module _ (words capacities counts : List ℕ) where
  -- what the index of some lists holds: "each provider's unknown2 count", and "every event with a found template .. in list order"
  abbrev pub index_of : Index
  index_of =
      record {
        counts = map (word_of UNKNOWN2_COUNT) (entries_of words capacities counts PROVIDERS);
        entries = map entry_of (found_events words capacities counts);
      }

  -- "writing gives 8 and 10 as a lookup does, and 10 for any event's field past its width or an event in no provider's EVNT range or in two"
  abbrev pub together : Bool
  together =
      let tables = entries_of words capacities counts TABLES in
      (counts_fit counts capacities && (tables_fit counts tables && tables_own (entries_of words capacities counts TEMPLATES) tables))
      && (events_owned words capacities counts && every (λ e. fields_fit e) (entries_of words capacities counts EVENTS))

  unfoldable pub writing : List ℕ → Outcome (List ℕ)
  writing lent =
      choose (lent_enough capacities words)
      (choose together (with_room lent (written index_of)) (refused (own 10)))
      (refused (own 8))

-- what the code answers, and what the lent bytes or words then hold
abbrev pub given : Outcome (List ℕ) → Result ℕ Refusal
given o = as_result (λ g. length g) o

abbrev pub held : List ℕ → Outcome (List ℕ) → List ℕ
held lent (done g) = laid lent 0 g
held lent (refused r) = lent

-- What the code promises.
pub record AllowedRead (bytes lent : List ℕ) (a : Result ℕ Refusal) (after : List ℕ) : Type 0 where
  pub answered : a ≡ given (reading bytes lent)
  pub kept : after ≡ held lent (reading bytes lent)

pub record AllowedWrite (words capacities counts lent : List ℕ) (a : Result ℕ Refusal) (after : List ℕ) : Type 0 where
  pub answered : a ≡ given (writing words capacities counts lent)
  pub kept : after ≡ held lent (writing words capacities counts lent)
