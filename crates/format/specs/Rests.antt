-- The bytes that an accepted reading rests on: their places, told from what was read.
-- "For an accepted blob: CRIM 0 to 15; provider descriptors; WEVT headers, descriptors, unknown2 words; element signatures; the first
-- 8 bytes of unknown elements; table headers and records (MAPS without 12 to 15); MAPS offsets; each map's signature; VMAP headers and
-- entries; 40-byte TEMP headers; each name's size word and units up to and with the first zero unit (all, if none). Replaced duplicate
-- tables count too. Bodies, BinXML and trailing bytes count only where they overlap these." (bytes a reading rests on)
-- "Demand 3's bytes now take in the items and their names." (request 01)
use Rattle.std.specs.Prelude.{ℕ, ◌+◌, ◌*◌, List, [], ◌∷◌, ◌++◌, length, eqb}
use Rattle.blob.specs.Reading.{choose}
use Rattle.blob.specs.Laid.{flat}
use Rattle.blob.specs.Places.{span, rows}
use Rattle.format.specs.Table.{stride}
use Rattle.format.specs.Definition.{step}
use Rattle.format.specs.Item.{Item, items_start}
use Rattle.format.specs.Template.{Template, next}
use Rattle.format.specs.Map.{Mapped}
use Rattle.format.specs.Provider.{Rows, definitions, events, maps, templates, Element, table, unknown, Provider}
use Rattle.format.specs.Crim.{Crim}
use Rattle.format.specs.declared.Name.{Name}
use Rattle.format.specs.declared.Definition.{Definition}
use Rattle.format.specs.declared.Descriptor.{Descriptor}

-- "each name's size word and units up to and with the first zero unit (all, if none)"; none of an absent name
unfoldable pub name_bytes : ℕ → Name → List ℕ
name_bytes offset n =
    choose (eqb offset 0) [] (span offset 4 ++ span (offset + 4) (2 * n.units + choose n.ended 2 0))

-- a definition's record, and its name
abbrev pub definition_bytes : ℕ → ℕ → Definition → List ℕ
definition_bytes k at d = span at (stride k) ++ name_bytes d.offset d.name

-- "VMAP headers and entries", and the name; of another map "each map's signature"
unfoldable pub map_bytes : Mapped → List ℕ
map_bytes m =
    let at = m.map.offset in
    choose (eqb m.map.kind 1)
    (span at 16 ++ (rows (λ p e. span p 8) (step 8) (at + 16) m.entries ++ name_bytes m.map.string m.map.name))
    (span at 4)

-- "MAPS offsets": map 0, then each offset with its map
unfoldable pub maps_bytes : ℕ → List Mapped → List ℕ
maps_bytes at [] = []
maps_bytes at (m ∷ ms) = map_bytes m ++ rows (λ p n. span p 4 ++ map_bytes n) (step 4) (at + 16) ms

-- an item, and its name
abbrev pub item_bytes : ℕ → Item → List ℕ
item_bytes at i = span at 20 ++ name_bytes i.offset i.name

-- "40-byte TEMP headers", and the items
unfoldable pub template_bytes : ℕ → Template → List ℕ
template_bytes at t = span at 40 ++ rows item_bytes (step 20) (items_start (at + t.size) t.items_offset) t.items

-- "table headers and records (MAPS without 12 to 15)"
unfoldable pub table_bytes : ℕ → ℕ → Rows → List ℕ
table_bytes k at (definitions ds) = span at 12 ++ rows (definition_bytes k) (step (stride k)) (at + 12) ds
table_bytes k at (events es) = span at 16 ++ rows (λ p e. span p 48) (step 48) (at + 16) es
table_bytes k at (maps ms) = span at 12 ++ maps_bytes at ms
table_bytes k at (templates ts) = span at 12 ++ rows template_bytes next (at + 12) ts

-- "the first 8 bytes of unknown elements"
unfoldable pub element_bytes : Element → List ℕ
element_bytes (table t) = table_bytes t.kind t.offset t.rows
element_bytes (unknown u) = span u.offset 8

-- "element signatures", each with its descriptor
abbrev pub descriptor_bytes : ℕ → Descriptor → List ℕ
descriptor_bytes at d = span at 8 ++ span d.offset 4

-- "WEVT headers, descriptors, unknown2 words", and the elements, replaced ones too
unfoldable pub provider_bytes : Provider → List ℕ
provider_bytes p =
    span p.offset 20
    ++ (rows descriptor_bytes (step 8) (p.offset + 20) p.descriptors
    ++ (rows (λ at w. span at 4) (step 4) (p.offset + 20 + 8 * length p.descriptors) p.unknown2
    ++ flat element_bytes p.elements))

-- "provider descriptors", each with its provider
abbrev pub providers_bytes : List Provider → List ℕ
providers_bytes ps = rows (λ at p. span at 20 ++ provider_bytes p) (step 20) 16 ps

-- "CRIM 0 to 15", and the providers
unfoldable pub rests_on : Crim → List ℕ
rests_on c = span 0 16 ++ providers_bytes c.providers
