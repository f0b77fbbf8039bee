-- Table headers, and the end of a table of records.
-- "signature, size, count; records from 12 (EVNT from 16). Order: offset (5), header length (1), signature (2), then bounds." (tables)
use Rattle.std.specs.Prelude.{ℕ, ◌+◌, ◌*◌, List, [], ◌∷◌, get_or, leb, eqb, Result}
use Rattle.blob.specs.declared.Refusal.{Refusal}
use Rattle.blob.specs.Reading.{Reading, got, Outcome, choose, demand, ◌>>=◌, number, as_result}
use Rattle.format.specs.Area as area
use Rattle.format.specs.Area.{DEFINITIONS, EVENTS, TEMPLATES}
use Rattle.format.specs.Field.{table_offset, table_header, table_size, table_array}
use Rattle.format.specs.Refuse.{whole, within, wrong_signature, size_out}
use Rattle.format.specs.Region.{bounded}
use Rattle.format.specs.declared.Header.{Header}

-- "Kinds: CHAN 1, EVNT 2, KEYW 3, LEVL 4, MAPS 5, OPCO 6, TASK 7, TTBL 8." (the lists)
abbrev pub CHAN : ℕ
CHAN = 1

abbrev pub EVNT : ℕ
EVNT = 2

abbrev pub KEYW : ℕ
KEYW = 3

abbrev pub LEVL : ℕ
LEVL = 4

abbrev pub MAPS : ℕ
MAPS = 5

abbrev pub OPCO : ℕ
OPCO = 6

abbrev pub TASK : ℕ
TASK = 7

abbrev pub TTBL : ℕ
TTBL = 8

-- a kind's signature: its four letters as a little-endian number
abbrev pub signature : ℕ → ℕ
signature k = get_or (0 ∷ 0x4E414843 ∷ 0x544E5645 ∷ 0x5759454B ∷ 0x4C56454C ∷ 0x5350414D ∷ 0x4F43504F ∷ 0x4B534154 ∷ 0x4C425454 ∷ []) k 0

-- the kind that a signature names, of some kinds; 0 for none
abbrev pub kinds : List ℕ
kinds = CHAN ∷ EVNT ∷ KEYW ∷ LEVL ∷ MAPS ∷ OPCO ∷ TASK ∷ TTBL ∷ []

unfoldable pub kind_in : List ℕ → ℕ → ℕ
kind_in [] s = 0
kind_in (k ∷ ks) s = choose (eqb s (signature k)) k (kind_in ks s)

abbrev pub kind_of : ℕ → ℕ
kind_of s = kind_in kinds s

-- the list that a kind's tables have their entries in
abbrev pub kind_list : ℕ → ℕ
kind_list k = get_or (0 ∷ DEFINITIONS ∷ EVENTS ∷ DEFINITIONS ∷ DEFINITIONS ∷ area.MAPS ∷ DEFINITIONS ∷ DEFINITIONS ∷ TEMPLATES ∷ []) k 0

-- the bytes before the first record: "records from 12 (EVNT from 16)"; "MAPS (16 bytes ..)"
abbrev pub header_length : ℕ → ℕ
header_length k = get_or (0 ∷ 12 ∷ 16 ∷ 12 ∷ 12 ∷ 16 ∷ 12 ∷ 12 ∷ 12 ∷ []) k 0

-- "Records: CHAN 16, EVNT 48, KEYW 16, LEVL 12, OPCO 12, TASK 28"
abbrev pub stride : ℕ → ℕ
stride k = get_or (0 ∷ 16 ∷ 48 ∷ 16 ∷ 12 ∷ 0 ∷ 12 ∷ 28 ∷ 0 ∷ []) k 0

unfoldable pub header_at : ℕ → ℕ → Reading Header
header_at k at =
    within (table_offset k) at (
    whole (table_header k) at (header_length k) (
    number 4 at >>= λ found.
    demand (eqb found (signature k)) (wrong_signature at (signature k) found) (
    number 4 (at + 4) >>= λ size.
    number 4 (at + 8) >>= λ count.
    got (record { size = size; count = count }))))

-- where a table of records ends. "Size 0: the records must fit the blob (else 1), the table ends at their end. Otherwise size under
-- the header or past the blob is 3; records past the table end are 3."
unfoldable pub table_end : ℕ → ℕ → Header → Reading ℕ
table_end k at h =
    let start = at + header_length k in
    let bytes = stride k * h.count in
    choose (eqb h.size 0)
    (whole (table_array k) start bytes (got (start + bytes)))
    (bounded (table_size k) at h.size (header_length k) >>= λ e.
    demand (leb (start + bytes) e) (size_out (table_array k) at h.size) (got e))

-- what the code answers for a header
abbrev pub header_read : Outcome Header → Result Header Refusal
header_read o = as_result (λ h. h) o
