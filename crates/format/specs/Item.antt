-- A TEMP's items. "20 bytes each (unknown1 u32, input type u8, output type u8, unknown3 u16, unknown4 u32, count u16, length u16, name
-- offset u32), starting at the items offset, or at the TEMP's end when that word is 0." (request 01)
use Rattle.std.specs.Prelude.{ℕ, ◌+◌, ◌*◌, ◌||◌, List, leb, eqb}
use Rattle.blob.specs.Reading.{Reading, got, choose, demand, ◌>>=◌, number, many}
use Rattle.format.specs.Field.{template_item_descriptors, template_item_name_offset, template_item_name}
use Rattle.format.specs.Refuse.{truncated, offset_out}
use Rattle.format.specs.Region.{until, inside}
use Rattle.format.specs.Name.{name_at}
use Rattle.format.specs.Definition.{step}
use Rattle.format.specs.declared.Name.{Name}

pub record Item : Type 0 where
  pub unknown1 : ℕ
  pub input : ℕ
  pub output : ℕ
  pub unknown3 : ℕ
  pub unknown4 : ℕ
  pub count : ℕ
  pub length : ℕ
  -- of its name
  pub offset : ℕ
  pub name : Name

-- "Names are sized names and must lie wholly within their TEMP; name offset 0 is no name"; "a name before it 5 with the blob's length,
-- names else as in 01 against the TEMP's end": the TEMP's place and end, and the name's offset
unfoldable pub item_name_at : (temp e offset : ℕ) → Reading Name
item_name_at temp e offset =
    demand (eqb offset 0 || leb temp offset) (offset_out template_item_name_offset offset) (name_at (until e) template_item_name offset)

-- "each name is read with its item"
unfoldable pub item_at : (temp e at : ℕ) → Reading Item
item_at temp e at =
    number 4 at >>= λ unknown1. number 1 (at + 4) >>= λ input. number 1 (at + 5) >>= λ output. number 2 (at + 6) >>= λ unknown3.
    number 4 (at + 8) >>= λ unknown4. number 2 (at + 12) >>= λ count. number 2 (at + 14) >>= λ length. number 4 (at + 16) >>= λ offset.
    item_name_at temp e offset >>= λ name.
    got (record {
      unknown1 = unknown1;
      input = input;
      output = output;
      unknown3 = unknown3;
      unknown4 = unknown4;
      count = count;
      length = length;
      offset = offset;
      name = name;
    })

-- where the items of a TEMP that ends at e start, by the items offset
abbrev pub items_start : (e offset : ℕ) → ℕ
items_start e offset = choose (eqb offset 0) e offset

-- "items past the TEMP are 1 at their start (need 20 × count), before any name"
unfoldable pub items_from : (temp e n offset : ℕ) → Reading (List Item)
items_from temp e n offset =
    let start = items_start e offset in
    inside (until e) (start + 20 * n) (truncated template_item_descriptors start (20 * n)) (many (item_at temp e) (step 20) n start)
