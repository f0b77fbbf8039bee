-- TTBL and TEMP. "TEMPs lie one after another from byte 12. Each: 40 bytes before the region end (1), signature, size at least 40 (3),
-- end within the region (3); item count 0 with name count not 0 is 4 at TEMP + 12." (layouts)
use Rattle.std.specs.Prelude.{ℕ, ◌+◌, ◌-◌, not, ◌||◌, List, leb, ltb, eqb}
use Rattle.blob.specs.declared.Refusal.{Refusal}
use Rattle.blob.specs.Reading.{Reading, got, stop, choose, demand, ◌>>=◌, number, many}
use Rattle.format.specs.Field.{TEMP_header, TEMP_size, TEMP_item_name_count_expected_0, TEMP_template_items_offset, TEMP_template_items_offset_relative, table_size}
use Rattle.format.specs.Refuse.{fine, truncated, wrong_signature, size_out, count_out, offset_out}
use Rattle.format.specs.Region.{Region, inside, region_at}
use Rattle.format.specs.Table.{TTBL, header_length}
use Rattle.format.specs.Definition.{guid_at}
use Rattle.format.specs.Item.{Item, items_from}
use Rattle.format.specs.declared.Header.{Header}
use Rattle.format.specs.declared.BlobPlace.{BlobPlace}
use Rattle.format.specs.declared.TemplatePlace.{TemplatePlace}
use Rattle.format.specs.declared.Items.{Items}
use Rattle.format.specs.declared.Items.TheVariants as items
use Rattle.format.specs.declared.Guid.{Guid}

-- `TEMP` as a little-endian number
abbrev pub TEMP : ℕ
TEMP = 0x504D4554

-- a TEMP, with its items
pub record Template : Type 0 where
  pub offset : ℕ
  pub size : ℕ
  pub descriptors : ℕ
  pub names : ℕ
  pub items_offset : ℕ
  pub event : ℕ
  pub guid : Guid
  -- its BinXML
  pub start : ℕ
  pub length : ℕ
  pub items : List Item

-- "Offsets from the blob's start and offsets from a template's start are counted apart."
abbrev pub blob_place : ℕ → BlobPlace
blob_place n = record { 0 = n }

abbrev pub template_place : ℕ → TemplatePlace
template_place n = record { 0 = n }

-- "Items offset 0 counts as the TEMP's end." The TEMP's place and size, and its items offset
abbrev pub items_of : BlobPlace → ℕ → BlobPlace → Items
items_of temp size offset =
    choose (eqb offset.0 0) (items.At (template_place size)) (
    choose (ltb offset.0 temp.0) (items.Before offset) (
    choose (leb (offset.0 - temp.0) size) (items.At (template_place (offset.0 - temp.0)))
    (items.Past (template_place (offset.0 - temp.0)))))

-- "An items offset before the TEMP is 5 with the blob offset and blob length; one past its end is 5 with the offset relative to the
-- TEMP and the TEMP's size." What each case says, in a TEMP of a size, in a blob of n bytes
abbrev pub items_says : (size n : ℕ) → Items → Refusal
items_says size n (items.At t) = fine
items_says size n (items.Before b) = (offset_out TEMP_template_items_offset b.0).told n
items_says size n (items.Past t) = (offset_out TEMP_template_items_offset_relative t.0).told size

unfoldable pub items_at : ℕ → Items → Reading TemplatePlace
items_at size (items.At t) = got t
items_at size (items.Before b) = stop (record { told = λ n. items_says size n (items.Before b) })
items_at size (items.Past t) = stop (record { told = λ n. items_says size n (items.Past t) })

-- the fields of a TEMP whose size is right. "BinXML runs from TEMP byte 40 to the items; items below 40 give length 0, start still
-- TEMP + 40." The items come last: "all after its BinXML bounds" (request 01)
abbrev pub template_fields : (at size : ℕ) → Reading Template
template_fields at size =
    number 4 (at + 8) >>= λ descriptors. number 4 (at + 12) >>= λ names. number 4 (at + 16) >>= λ offset. number 4 (at + 20) >>= λ event.
    guid_at (at + 24) >>= λ guid.
    demand (not (eqb descriptors 0) || eqb names 0) (count_out TEMP_item_name_count_expected_0 (at + 12) names) (
    items_at size (items_of (blob_place at) size (blob_place offset)) >>= λ t.
    items_from at (at + size) descriptors offset >>= λ is.
    got (record {
      offset = at;
      size = size;
      descriptors = descriptors;
      names = names;
      items_offset = offset;
      event = event;
      guid = guid;
      start = at + 40;
      length = t.0 - 40;
      items = is;
    }))

unfoldable pub template_at : Region → ℕ → Reading Template
template_at region at =
    inside region (at + 40) (truncated TEMP_header at 40) (
    number 4 at >>= λ found.
    demand (eqb found TEMP) (wrong_signature at TEMP found) (
    number 4 (at + 4) >>= λ size.
    demand (leb 40 size) (size_out TEMP_size at size) (
    inside region (at + size) (size_out TEMP_size at size) (template_fields at size))))

-- the next TEMP stands behind this one
abbrev pub next : Template → ℕ → ℕ
next t at = at + t.size

-- "size 0 ends the region at the blob end"
unfoldable pub templates_at : ℕ → Header → Reading (List Template)
templates_at at h =
    region_at (table_size TTBL) at h.size (header_length TTBL) >>= λ region.
    many (template_at region) next h.count (at + header_length TTBL)
