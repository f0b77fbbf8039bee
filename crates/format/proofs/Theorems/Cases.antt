-- The proved cases: one table, computed under one claim. A row has the bytes, the whole answer and the words of all lists.
-- "Cases (P: proved together)".
use Rattle.std.specs.Prelude.{ℕ, ◌/◌, ◌%◌, ◌≡◌, refl, List, [], ◌∷◌, ◌++◌, map, replicate}
use Rattle.blob.specs.Reading.{Outcome, done, refused, demand, run, then, ◌>>=◌, number, many, each}
use Rattle.blob.specs.Le.{le}
use Rattle.blob.specs.Laid.{laid, flat}
use Rattle.format.specs.Name.{text, sized, name_at}
use Rattle.format.specs.Region.{inside, bounded, region_at}
use Rattle.format.specs.Table.{signature, TTBL, kind_in, header_at, table_end}
use Rattle.format.specs.Definition.{guid_at, fields_at, definition_at, definitions_at}
use Rattle.format.specs.Item.{item_name_at, item_at, items_from}
use Rattle.format.specs.Template.{TEMP, items_at, template_at, templates_at}
use Rattle.format.specs.Map.{maps_at}
use Rattle.format.specs.Provider.{WEVT, events_at, table_at, unknown_at, element_of, element_at, descriptor_at, wevt_at, provider_at}
use Rattle.format.specs.Crim.{CRIM, Crim, header, described_at, providers_of, crim}
use Rattle.format.specs.Area.{rows, none}
use Rattle.format.specs.Lists.{last_of, unknowns, owned_tables, owned_unknowns, table_entries, map_list, item_list, lists}
use Rattle.format.specs.Answer.{moderate, areas, with_room, reading, answer}
use Rattle.format.specs.Listing.{says, number as numeral, listing}
use Rattle.format.specs.declared.Answer.{Answer}

-- a word's four bytes
abbrev pub four : ℕ → List ℕ
four w = w % 256 ∷ w / 256 % 256 ∷ w / 65536 % 256 ∷ w / 16777216 ∷ []

-- "Blob Z: `CRIM`, size 16, versions 0, count 0."
abbrev pub Z : ℕ → ℕ → List ℕ
Z size count = flat four (CRIM ∷ size ∷ 0 ∷ count ∷ [])

-- "Blob T: 116 bytes, all words zero but these: `CRIM` 0, size 116, provider count 1, provider offset 36 (at 32); `WEVT` 36, size 80,
-- one descriptor; descriptor 56 to offset 64; `TTBL` 64, size 52, count 1; `TEMP` 76, size 40."
abbrev pub T : (ttbl temp names items : ℕ) → List ℕ
T ttbl temp names items =
    flat four (
    CRIM ∷ 116 ∷ 0 ∷ 1 ∷ 0 ∷ 0 ∷ 0 ∷ 0 ∷ 36
    ∷ WEVT ∷ 80 ∷ 0 ∷ 1 ∷ 0 ∷ 64 ∷ 0
    ∷ signature TTBL ∷ ttbl ∷ 1
    ∷ TEMP ∷ temp ∷ 0 ∷ names ∷ items ∷ 0 ∷ 0 ∷ 0 ∷ 0 ∷ 0 ∷ [])

-- Blob U: T with an item, 152 bytes: CRIM.size 152, TTBL.size 80; TEMP at 76 with size 68, item count 1 (at 84), name count 1, items offset
-- 116 (at 92); the item's name offset (at 132) 136; at 136 the name: size 8, `A`, zero unit. The word at 100 is the first of its GUID
abbrev pub U : (count items guid name size text : ℕ) → List ℕ
U count items guid name size text =
    flat four (
    CRIM ∷ 152 ∷ 0 ∷ 1 ∷ 0 ∷ 0 ∷ 0 ∷ 0 ∷ 36
    ∷ WEVT ∷ 80 ∷ 0 ∷ 1 ∷ 0 ∷ 64 ∷ 0
    ∷ signature TTBL ∷ 80 ∷ 1
    ∷ TEMP ∷ 68 ∷ count ∷ 1 ∷ items ∷ 0 ∷ guid ∷ 0 ∷ 0 ∷ 0
    ∷ 0 ∷ 0 ∷ 0 ∷ 0 ∷ name
    ∷ size ∷ text ∷ 0 ∷ 0 ∷ [])

-- one entry of each list, and words for them
abbrev pub one_each : List ℕ
one_each = map (λ r. 1) rows

pub record Row : Type 0 where
  pub answer : Answer
  pub lists : List (List ℕ)

-- a refusal: no counts, no lists
abbrev refusal : (code field place first second : ℕ) → Row
refusal c f p a b = record { answer = record { code = c; field = f; place = p; first = a; second = b; counts = none }; lists = [] }

abbrev pub listed : Outcome Crim → List (List ℕ)
listed (done c) = map (flat (λ e. e)) (lists c.providers)
listed (refused r) = []

abbrev pub row_of : Outcome Crim → Row
row_of o = record { answer = answer o; lists = listed o }

-- what the definition finds of some bytes
found : List ℕ → Row
unfolding demand run then ◌>>=◌ number many each le laid flat text sized name_at inside bounded region_at kind_in header_at table_end guid_at fields_at definition_at definitions_at
    item_name_at item_at items_from items_at template_at templates_at maps_at events_at table_at unknown_at element_of element_at descriptor_at wevt_at provider_at header described_at providers_of crim
    last_of unknowns owned_tables owned_unknowns table_entries map_list item_list lists moderate areas with_room reading answer
found bytes =
    row_of (reading bytes (replicate (areas rows one_each) 0) one_each)

pub record Case : Type 0 where
  pub bytes : List ℕ
  pub row : Row

table : List Case
table =
    -- "empty: 1, at 0, need 4, have 0"
    record { bytes = []; row = refusal 1 1 0 4 0 }
    -- "Z: 0, no entries. Z plus five stray bytes: the same."
    ∷ record { bytes = Z 16 0; row = empty }
    ∷ record { bytes = Z 16 0 ++ (1 ∷ 2 ∷ 3 ∷ 4 ∷ 5 ∷ []); row = empty }
    -- "Z with size 15 or 17: 3, that size. Z with provider count 1: 1 at 16, need 20, have 0."
    ∷ record { bytes = Z 15 0; row = refusal 3 2 0 15 0 }
    ∷ record { bytes = Z 17 0; row = refusal 3 2 0 17 0 }
    ∷ record { bytes = Z 16 1; row = refusal 1 6 16 20 0 }
    -- "T: one provider, descriptor, table, template; template entry 76, 40, eight zeros, 116, 0.", with its provider, 0, in front (request 06)
    ∷ record { bytes = T 52 40 0 0; row = whole }
    -- "T with TTBL.size 51: 1 at 76, need 40, have 39. TEMP.size 39: 3 at 76."
    ∷ record { bytes = T 51 40 0 0; row = refusal 1 80 76 40 39 }
    ∷ record { bytes = T 52 39 0 0; row = refusal 3 82 76 39 0 }
    -- "T with items offset 75: 5, 75 against 116. 117: 5, 41 against 40. name count 1: 4 at 88."
    ∷ record { bytes = T 52 40 0 75; row = refusal 5 85 75 116 0 }
    ∷ record { bytes = T 52 40 0 117; row = refusal 5 89 41 40 0 }
    ∷ record { bytes = T 52 40 1 0; row = refusal 4 88 88 1 0 }
    -- U: T's entries, and an item of template 0 with the name at 140, one unit that a zero unit ends
    ∷ record { bytes = U 1 116 0 136 8 0x41; row = with_item 0 136 140 1 1 }
    -- a name without a zero unit, with nothing but one, and none
    ∷ record { bytes = U 1 116 0 136 8 0x420041; row = with_item 0 136 140 2 0 }
    ∷ record { bytes = U 1 116 0 136 6 0; row = with_item 0 136 140 0 1 }
    ∷ record { bytes = U 1 116 0 0 8 0x41; row = with_item 0 0 0 0 0 }
    -- items past the TEMP
    ∷ record { bytes = U 2 116 0 136 8 0x41; row = refusal 1 137 116 40 28 }
    ∷ record { bytes = U 1 0 0 136 8 0x41; row = refusal 1 137 144 20 0 }
    -- the array as a whole before any name
    ∷ record { bytes = U 2 116 0 75 8 0x41; row = refusal 1 137 116 40 28 }
    -- a name before the TEMP, and one over its header, of size 4
    ∷ record { bytes = U 1 116 0 75 8 0x41; row = refusal 5 146 75 152 0 }
    ∷ record { bytes = U 1 116 4 100 8 0x41; row = with_item 4 100 104 0 0 }
    -- a name past the TEMP, and at its end; a size under 4, and an odd one
    ∷ record { bytes = U 1 116 0 145 8 0x41; row = refusal 5 149 145 144 0 }
    ∷ record { bytes = U 1 116 0 144 8 0x41; row = refusal 1 149 144 4 0 }
    ∷ record { bytes = U 1 116 0 136 3 0x41; row = refusal 3 149 136 3 0 }
    ∷ record { bytes = U 1 116 0 136 7 0x41; row = refusal 6 149 136 0 0 }
    -- a name that ends past the TEMP, and half a surrogate pair
    ∷ record { bytes = U 1 116 0 136 10 0x41; row = refusal 1 149 136 10 8 }
    ∷ record { bytes = U 1 116 0 136 8 0xD800; row = refusal 6 149 136 0 0 }
    ∷ []
  where
    empty : Row
    empty =
        record {
          answer = record { code = 0; field = 0; place = 0; first = 16; second = 0; counts = none };
          lists = map (λ r. []) rows;
        }

    -- one provider, descriptor, table and template, and so many items
    accepted : (size ttbl : ℕ) → (template : List ℕ) → (items : ℕ) → (item : List ℕ) → Row
    accepted size ttbl template items item =
        record {
          answer =
              record {
                code = 0;
                field = 0;
                place = 0;
                first = size;
                second = 0;
                counts = 1 ∷ 1 ∷ 0 ∷ 1 ∷ 0 ∷ 0 ∷ 0 ∷ 0 ∷ 1 ∷ 0 ∷ items ∷ [];
              };
          lists =
              (0 ∷ 0 ∷ 0 ∷ 0 ∷ 36 ∷ 80 ∷ 0 ∷ 1 ∷ 0 ∷ [])
              ∷ (64 ∷ 0 ∷ 0x4C425454 ∷ [])
              ∷ []
              ∷ (0 ∷ 8 ∷ 64 ∷ ttbl ∷ 0 ∷ 0 ∷ 1 ∷ 0 ∷ 0 ∷ [])
              ∷ []
              ∷ []
              ∷ []
              ∷ []
              ∷ template
              ∷ []
              ∷ item
              ∷ [];
        }

    whole : Row
    whole = accepted 116 52 (0 ∷ 76 ∷ 40 ∷ 0 ∷ 0 ∷ 0 ∷ 0 ∷ 0 ∷ 0 ∷ 0 ∷ 0 ∷ 116 ∷ 0 ∷ []) 0 []

    with_item : (guid offset start units ended : ℕ) → Row
    with_item guid offset start units ended =
        accepted 152 80 (0 ∷ 76 ∷ 68 ∷ 1 ∷ 1 ∷ 116 ∷ 0 ∷ guid ∷ 0 ∷ 0 ∷ 0 ∷ 116 ∷ 0 ∷ []) 1 (0 ∷ 0 ∷ 0 ∷ 0 ∷ 0 ∷ 0 ∷ offset ∷ start ∷ units ∷ ended ∷ [])

-- every row is what the definition finds
cases : map (λ c. found c.bytes) table ≡ map (λ c. c.row) table
unfolding found table
cases = refl

-- "The listing of T, whole"; "template 76 provider 0 size 40 binxml 116 0" (request 06)
listed-T : listing (T 52 40 0 0)
    ≡ (says "crim" ∷ numeral 116 ∷ says "providers" ∷ numeral 1 ∷ says "events" ∷ numeral 0 ∷ says "templates" ∷ numeral 1 ∷ [])
    ∷ (says "template" ∷ numeral 76 ∷ says "provider" ∷ numeral 0 ∷ says "size" ∷ numeral 40 ∷ says "binxml" ∷ numeral 116 ∷ numeral 0 ∷ [])
    ∷ []
unfolding found listing
listed-T = refl
