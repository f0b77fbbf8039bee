-- What the code speaks of: rows that are passed and rows that are given, what is left decides.
use Prim.Native.Nat.{ℕ, ◌+◌, ◌≤◌}
use Rattle.std.specs.Prelude.{◌≡◌, false, map, Result, Ok, Err, eqb}
use mathlib.Core.List.{List, [], ◌∷◌}
use Rattle.std.proofs.Math.ListN.{length}
use Rattle.blob.specs.Reading.{Outcome, done, refused, then, answer, as_result}
use Rattle.blob.specs.Laid.{laid, flat}
use Rattle.blob.specs.declared.Refusal.{Refusal}
use Rattle.number.specs.Number.{WORD, LONG, number_at}
use Rattle.number.specs.Scan.{most}
use Rattle.number.specs.declared.Number.{Number}
use Rattle.number.specs.declared.Width.{Width}
use Rattle.index.specs.Index.{EDITION, ONE, ENTRY, Index, Row, Rows, row_at, rows_at, index, row_words, words}
use Rattle.index.specs.declared.Word.{Word}
use Rattle.index.specs.declared.Shape.{Shape}
use Rattle.index.specs.declared.Place.{Place}

-- the largest numbers of some widths
abbrev pub mosts : List Width → List ℕ
mosts ws = map most ws

abbrev pub behind_number : Outcome Number → Result ℕ Refusal
behind_number o = as_result (λ n. n.behind) o

abbrev pub word_read : Outcome Number → Result Word Refusal
word_read o = as_result (λ n. record { value = n.value; behind = n.behind }) o

abbrev pub behind_row : Outcome Row → Result ℕ Refusal
behind_row o = as_result (λ r. r.behind) o

abbrev pub behind_rows : Outcome Rows → Result ℕ Refusal
behind_rows o = as_result (λ r. r.behind) o

-- what was found, where something was
abbrev pub row_of : Outcome Row → Row
row_of o = answer (λ r. r) (λ q. record { numbers = []; behind = 0 }) o

abbrev pub rows_of : Outcome Rows → Rows
rows_of o = answer (λ r. r) (λ q. record { rows = []; behind = 0 }) o

abbrev pub index_found : Outcome Index → Index
index_found o = answer (λ i. i) (λ q. record { counts = []; entries = [] }) o

-- the words of an index
abbrev pub words_of : List ℕ → List ℕ
words_of bytes = words (index_found (index bytes))

-- a count and so many rows behind it
pub record Counted : Type 0 where
  pub count : ℕ
  pub rows : List (List ℕ)
  pub behind : ℕ

unfoldable pub counted_at : List ℕ → List ℕ → ℕ → Outcome Counted
counted_at ws bytes at =
    then (number_at WORD bytes at) (λ n. then (rows_at n.value ws bytes n.behind) (λ r. done (record { count = n.value; rows = r.rows; behind = r.behind })))

abbrev pub counted_read : Outcome Counted → Result Word Refusal
counted_read o = as_result (λ c. record { value = c.count; behind = c.behind }) o

abbrev pub counted_of : Outcome Counted → Counted
counted_of o = answer (λ c. c) (λ q. record { count = 0; rows = []; behind = 0 }) o

-- what the test tells: the shape of an index that is one
pub record Shaped (bytes : List ℕ) (s : Shape) : Type 0 where
  pub edition : Number
  pub counts : Counted
  pub entries : Counted
  pub edition_read : number_at WORD bytes 0 ≡ done edition
  pub edition_one : edition.value ≡ EDITION
  pub counts-read : counted_at ONE bytes edition.behind ≡ done counts
  pub entries-read : counted_at ENTRY bytes (counts).behind ≡ done entries
  pub shown : s ≡ record { at = edition.behind; providers = (counts).count; entries = entries.count; end = entries.behind }

abbrev pub Told : List ℕ → Result Shape Refusal → Type 0
Told bytes (Ok s) = Shaped bytes s
Told bytes (Err r) = index bytes ≡ refused r

-- a number that is no longer than its words
abbrev pub narrow : ℕ → ℕ → Type 0
narrow width number = eqb width LONG ≡ false → number ≤ WORD

-- rows that stand at a place of the bytes, with room for their words at one of the lent words
abbrev pub RowStands : List ℕ → List ℕ → ℕ → ℕ → ℕ → Type 0
RowStands ws bytes at to room = (r : Row) × (row_at ws bytes at ≡ done r) × (to + length (row_words ws r.numbers) ≤ room)

abbrev pub RowsStand : ℕ → List ℕ → List ℕ → ℕ → ℕ → ℕ → Type 0
RowsStand n ws bytes at to room = (r : Rows) × (rows_at n ws bytes at ≡ done r) × (to + length (flat (row_words ws) r.rows) ≤ room)

-- what is given of them
pub record RowGiven (ws bytes : List ℕ) (at : ℕ) (lent : List ℕ) (to : ℕ) (p : Place) (after : List ℕ) : Type 0 where
  pub place : p ≡ record { at = (row_of (row_at ws bytes at)).behind; to = to + length (row_words ws (row_of (row_at ws bytes at)).numbers) }
  pub kept : after ≡ laid lent to (row_words ws (row_of (row_at ws bytes at)).numbers)

pub record RowsGiven (n : ℕ) (ws bytes : List ℕ) (at : ℕ) (lent : List ℕ) (to : ℕ) (p : Place) (after : List ℕ) : Type 0 where
  pub place : p ≡ record { at = (rows_of (rows_at n ws bytes at)).behind; to = to + length (flat (row_words ws) (rows_of (rows_at n ws bytes at)).rows) }
  pub kept : after ≡ laid lent to (flat (row_words ws) (rows_of (rows_at n ws bytes at)).rows)

-- the words of a count and its rows
abbrev pub counted_words : List ℕ → Counted → List ℕ
counted_words ws c = c.count ∷ flat (row_words ws) c.rows

pub record CountedStands (n : ℕ) (ws bytes : List ℕ) (at to room : ℕ) : Type 0 where
  pub counted : Counted
  pub found : counted_at ws bytes at ≡ done counted
  pub count : counted.count ≡ n
  pub room-left : to + length (counted_words ws counted) ≤ room

pub record CountedGiven (ws bytes : List ℕ) (at : ℕ) (lent : List ℕ) (to : ℕ) (p : Place) (after : List ℕ) : Type 0 where
  pub place : p ≡ record { at = (counted_of (counted_at ws bytes at)).behind; to = to + length (counted_words ws (counted_of (counted_at ws bytes at))) }
  pub kept : after ≡ laid lent to (counted_words ws (counted_of (counted_at ws bytes at)))

abbrev pub Stands : List ℕ → Shape → ℕ → Type 0
Stands bytes s room = Shaped bytes s × (s.end ≡ length bytes) × (length (words_of bytes) ≤ room)

-- What is left to give, with what was given before it, is the whole.
pub record Giving (given : List ℕ) (stop next : ℕ) (lent : List ℕ) (behind end : ℕ) (after : List ℕ) : Type 0 where
  pub stops : stop ≡ behind
  pub ends : next + length given ≡ end
  pub fills : laid lent next given ≡ after

-- a row of which so much is left
pub record RowLeft (ws bytes : List ℕ) (at next : ℕ) (lent : List ℕ) (behind end : ℕ) (after : List ℕ) : Type 0 where
  pub row : Row
  pub found : row_at ws bytes at ≡ done row
  pub giving : Giving (row_words ws row.numbers) row.behind next lent behind end after

-- rows of which so many are left
pub record RowsLeft (n : ℕ) (ws bytes : List ℕ) (at next : ℕ) (lent : List ℕ) (behind end : ℕ) (after : List ℕ) : Type 0 where
  pub rows : Rows
  pub found : rows_at n ws bytes at ≡ done rows
  pub giving : Giving (flat (row_words ws) rows.rows) rows.behind next lent behind end after

-- what a count and its rows were made of
pub record Parts (ws bytes : List ℕ) (at : ℕ) (c : Counted) : Type 0 where
  pub number : Number
  pub rows : Rows
  pub number_read : number_at WORD bytes at ≡ done number
  pub rows-read : rows_at number.value ws bytes number.behind ≡ done rows
  pub shown : c ≡ record { count = number.value; rows = rows.rows; behind = rows.behind }
