-- MAPS with VMAP, BMAP and others. "(16 bytes; bytes 12 to 15 not read): region as for TTBL, minimum 16. Count 0 ends there.
-- count − 1 offsets from byte 16 must fit the blob, not the region (3). Map 0 starts right after them." (layouts)
use Rattle.std.specs.Prelude.{ℕ, ◌+◌, ◌-◌, ◌*◌, min, List, [], ◌∷◌, leb, eqb, Result}
use Rattle.blob.specs.declared.Refusal.{Refusal}
use Rattle.blob.specs.Reading.{Fault, Reading, got, Outcome, room, choose, demand, ◌>>=◌, number, many, as_result}
use Rattle.format.specs.Field.{MAPS_offsets_array, MAPS_map_offset, MAPS_map_signature, VMAP_size_field, VMAP_header, VMAP_size, VMAP_entries_array, VMAP_map_string, table_size}
use Rattle.format.specs.Refuse.{whole, within, size_out}
use Rattle.format.specs.Region.{Region, blob_end, until, against, inside, region_at}
use Rattle.format.specs.Name.{name_at, absent}
use Rattle.format.specs.Table.{MAPS, header_length}
use Rattle.format.specs.Definition.{step}
use Rattle.format.specs.declared.Header.{Header}
use Rattle.format.specs.declared.Map.{Map}
use Rattle.format.specs.declared.MapEntry.{MapEntry}

-- kinds of maps: "1 VMAP, 2 BMAP or 3 other" (the lists)
abbrev pub VALUE_MAP : ℕ
VALUE_MAP = 1

abbrev pub BIT_MAP : ℕ
BIT_MAP = 2

abbrev pub OTHER_MAP : ℕ
OTHER_MAP = 3

-- a map, with its entries
pub record Mapped : Type 0 where
  pub map : Map
  pub entries : List MapEntry

-- `VMAP` and `BMAP` as little-endian numbers
abbrev pub VMAP : ℕ
VMAP = 0x50414D56

abbrev pub BMAP : ℕ
BMAP = 0x50414D42

unfoldable pub entry_at : ℕ → Reading MapEntry
entry_at at = number 4 at >>= λ identifier. number 4 (at + 4) >>= λ message. got (record { identifier = identifier; message = message })

-- "its bytes are as many as its size, cut at the region end; under 16 of them is 1"
abbrev pub few : ℕ → ℕ → Fault
few at size = record { told = λ n. record { code = 1; field = VMAP_header; place = at; first = 16; second = min size (n - at) } }

-- "A VMAP needs 8 bytes (1); its bytes ..; a size past them is 3; entries past the size are 3; then the name. Data is what remains."
unfoldable pub value_map_at : Region → ℕ → Reading Mapped
value_map_at region at =
    whole VMAP_size_field at 8 (
    number 4 (at + 4) >>= λ size.
    demand (leb 16 size) (against region (few at size)) (
    inside region (at + 16) (few at size) (
    inside region (at + size) (size_out VMAP_size at size) (
    number 4 (at + 8) >>= λ string. number 4 (at + 12) >>= λ count.
    demand (leb (16 + 8 * count) size) (size_out VMAP_entries_array at size) (
    many entry_at (step 8) count (at + 16) >>= λ entries.
    name_at blob_end VMAP_map_string string >>= λ name.
    got (record {
      map =
          record {
            kind = VALUE_MAP;
            signature = VMAP;
            offset = at;
            size = size;
            string = string;
            name = name;
            count = count;
            start = at + 16 + 8 * count;
            length = size - (16 + 8 * count);
          };
      entries = entries;
    }))))))

-- "A BMAP or other map gives up to 4 bytes from its place, fewer or none past the region end." (its four signature bytes are in the
-- blob); "for BMAP and others size, string, first and count are 0" (the lists)
abbrev pub up_to_4 : Region → ℕ → ℕ
up_to_4 blob_end at = 4
up_to_4 (until e) at = min 4 (e - at)

abbrev pub other_map : Region → ℕ → ℕ → Mapped
other_map region at signature =
    record {
      map =
          record {
            kind = choose (eqb signature BMAP) BIT_MAP OTHER_MAP;
            signature = signature;
            offset = at;
            size = 0;
            string = 0;
            name = absent;
            count = 0;
            start = at;
            length = up_to_4 region at;
          };
      entries = [];
    }

-- "A map's place past the blob is 5, its signature cut short 1."
unfoldable pub map_at : Region → ℕ → Reading Mapped
map_at region at =
    within MAPS_map_offset at (
    whole MAPS_map_signature at 4 (
    number 4 at >>= λ signature.
    choose (eqb signature VMAP) (value_map_at region at) (got (other_map region at signature))))

-- map 0, then those that the offsets name
unfoldable pub maps_at : ℕ → Header → Reading (List Mapped)
maps_at at h =
    region_at (table_size MAPS) at h.size (header_length MAPS) >>= λ region.
    choose (eqb h.count 0) (got []) (
    let first = at + 16 + 4 * (h.count - 1) in
    room first (size_out MAPS_offsets_array at h.size) (
    map_at region first >>= λ m.
    many (λ p. number 4 p >>= map_at region) (step 4) (h.count - 1) (at + 16) >>= λ ms.
    got (m ∷ ms)))

-- what the code answers for a map, its entries aside
abbrev pub map_read : Outcome Mapped → Result Map Refusal
map_read o = as_result (λ m. m.map) o
