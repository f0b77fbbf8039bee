-- WEVT: its descriptors, unknown2 words and elements. "(20 bytes; a place past the blob 5, cut short 1): signature, size, message,
-- descriptor count, unknown2 count." (layouts)
use Rattle.std.specs.Prelude.{ℕ, ◌+◌, ◌*◌, ◌-◌, min, List, eqb, Result}
use Rattle.blob.specs.declared.Refusal.{Refusal}
use Rattle.blob.specs.Reading.{Reading, got, Outcome, room, choose, demand, ◌>>=◌, number, many, each, as_result}
use Rattle.format.specs.Field.{WEVT_provider_offset, WEVT_header, WEVT_descriptor_array, WEVT_element_offset, WEVT_element_signature, WEVT_unknown2_array, provider_element_offset, unknown_element_header, unknown_element_end}
use Rattle.format.specs.Refuse.{whole, within, wrong_signature, offset_out}
use Rattle.format.specs.Table.{EVNT, MAPS, TTBL, kind_of, header_at, header_length, stride, table_end}
use Rattle.format.specs.Definition.{definitions_at, step}
use Rattle.format.specs.Event.{event_at}
use Rattle.format.specs.Template.{Template, templates_at}
use Rattle.format.specs.Map.{Mapped, maps_at}
use Rattle.format.specs.declared.Header.{Header}
use Rattle.format.specs.declared.Guid.{Guid}
use Rattle.format.specs.declared.Definition.{Definition}
use Rattle.format.specs.declared.Event.{Event}
use Rattle.format.specs.declared.Wevt.{Wevt}
use Rattle.format.specs.declared.Descriptor.{Descriptor}
use Rattle.format.specs.declared.Unknown.{Unknown}

-- `WEVT` as a little-endian number
abbrev pub WEVT : ℕ
WEVT = 0x54564557

-- what a table's records are
pub data Rows : Type 0 where
  definitions : List Definition → Rows
  events : List Event → Rows
  maps : List Mapped → Rows
  templates : List Template → Rows

pub record Table : Type 0 where
  pub kind : ℕ
  pub offset : ℕ
  pub size : ℕ
  pub extra : ℕ
  pub rows : Rows
  pub start : ℕ
  pub length : ℕ

pub data Element : Type 0 where
  table : Table → Element
  unknown : Unknown → Element

pub record Provider : Type 0 where
  pub guid : Guid
  pub offset : ℕ
  pub size : ℕ
  pub message : ℕ
  pub descriptors : List Descriptor
  pub unknown2 : List ℕ
  pub elements : List Element

-- a table with no extra word and no trailing part
abbrev pub plain : ℕ → ℕ → Header → Rows → Table
plain k at h rs = record { kind = k; offset = at; size = h.size; extra = 0; rows = rs; start = 0; length = 0 }

-- EVNT: "Extra is EVNT's word at 12 .. Trailing is EVNT's" (the lists), from the records' end to the table's
unfoldable pub events_at : ℕ → Header → Reading Table
events_at at h =
    table_end EVNT at h >>= λ e.
    number 4 (at + 12) >>= λ extra.
    many event_at (step (stride EVNT)) h.count (at + header_length EVNT) >>= λ es.
    let records = at + header_length EVNT + stride EVNT * h.count in
    got (record { kind = EVNT; offset = at; size = h.size; extra = extra; rows = events es; start = records; length = e - records })

-- the table of a kind whose header has been read
unfoldable pub table_at : ℕ → ℕ → Header → Reading Table
table_at k at h =
    choose (eqb k EVNT) (events_at at h) (
    choose (eqb k MAPS) (maps_at at h >>= λ ms. got (plain k at h (maps ms))) (
    choose (eqb k TTBL) (templates_at at h >>= λ ts. got (plain k at h (templates ts)))
    (definitions_at k at h >>= λ ds. got (plain k at h (definitions ds)))))

-- "Unknown ones ..: 8 bytes needed, and offset plus size within the blob (else 5 with that sum, at most 4,294,967,295)."
unfoldable pub unknown_at : ℕ → Reading Element
unknown_at at =
    within provider_element_offset at (
    whole unknown_element_header at 8 (
    number 4 at >>= λ signature. number 4 (at + 4) >>= λ size.
    room (at + size) (offset_out unknown_element_end (min (at + size) 4294967295)) (
    got (unknown (record { signature = signature; offset = at; size = size })))))

-- the element of a kind
unfoldable pub element_of : ℕ → ℕ → Reading Element
element_of k at = choose (eqb k 0) (unknown_at at) (header_at k at >>= λ h. table_at k at h >>= λ t. got (table t))

-- the element of a descriptor, by its signature
unfoldable pub element_at : Descriptor → Reading Element
element_at d = element_of (kind_of d.signature) d.offset

-- "8-byte descriptors .. each with its element's four signature bytes fetched in turn (a place past the blob 5, cut short 1)"
unfoldable pub descriptor_at : ℕ → Reading Descriptor
descriptor_at at =
    number 4 at >>= λ offset. number 4 (at + 4) >>= λ unknown.
    within WEVT_element_offset offset (
    whole WEVT_element_signature offset 4 (
    number 4 offset >>= λ signature.
    got (record { offset = offset; unknown = unknown; signature = signature })))

-- the elements of n descriptors from a place on
abbrev pub elements_from : ℕ → ℕ → Reading (List Element)
elements_from n at = many descriptor_at (step 8) n at >>= each element_at

-- "signature, size, message, descriptor count, unknown2 count"; "WEVT.size is recorded, not tested."
unfoldable pub wevt_at : ℕ → Reading Wevt
wevt_at at =
    within WEVT_provider_offset at (
    whole WEVT_header at 20 (
    number 4 at >>= λ found.
    demand (eqb found WEVT) (wrong_signature at WEVT found) (
    number 4 (at + 4) >>= λ size. number 4 (at + 8) >>= λ message. number 4 (at + 12) >>= λ d. number 4 (at + 16) >>= λ u.
    got (record { size = size; message = message; descriptors = d; unknown2 = u }))))

-- what the code answers for a header
abbrev pub wevt_read : Outcome Wevt → Result Wevt Refusal
wevt_read o = as_result (λ w. w) o

-- "first their array whole in the blob (1) ..; then the unknown2 words, whole too (1); then the elements in descriptor order."
unfoldable pub provider_at : Guid → ℕ → Reading Provider
provider_at guid at =
    wevt_at at >>= λ w.
    whole WEVT_descriptor_array (at + 20) (8 * w.descriptors) (
    many descriptor_at (step 8) w.descriptors (at + 20) >>= λ descriptors.
    let words = at + 20 + 8 * w.descriptors in
    whole WEVT_unknown2_array words (4 * w.unknown2) (
    many (number 4) (step 4) w.unknown2 words >>= λ unknown2.
    each element_at descriptors >>= λ elements.
    got (record {
      guid = guid;
      offset = at;
      size = w.size;
      message = w.message;
      descriptors = descriptors;
      unknown2 = unknown2;
      elements = elements;
    })))
