-- The lists of an accepted blob, entry by entry and word by word.
-- "Numbering starts at 0. Lists run provider by provider; within one, tables by kind, entries in file order, the rest in descriptor or
-- array order." (the lists)
use Rattle.std.specs.Prelude.{ℕ, suc, ◌+◌, ◌*◌, List, [], ◌∷◌, ◌++◌, map, length, eqb}
use Rattle.blob.specs.Reading.{choose}
use Rattle.blob.specs.Laid.{flat}
use Rattle.format.specs.Area.{DEFINITIONS, EVENTS, MAPS, TEMPLATES, none, of, more}
use Rattle.format.specs.Table.{kinds}
use Rattle.format.specs.Item.{Item}
use Rattle.format.specs.Template.{Template}
use Rattle.format.specs.Map.{VALUE_MAP, Mapped}
use Rattle.format.specs.Provider.{Rows, definitions, events, maps, templates, Table, Element, table, unknown, Provider}
use Rattle.format.specs.declared.Guid.{Guid}
use Rattle.format.specs.declared.Name.{Name}
use Rattle.format.specs.declared.Definition.{Definition}
use Rattle.format.specs.declared.Event.{Event}
use Rattle.format.specs.declared.Map.{Map}
use Rattle.format.specs.declared.MapEntry.{MapEntry}
use Rattle.format.specs.declared.Descriptor.{Descriptor}
use Rattle.format.specs.declared.Unknown.{Unknown}

-- an entry is its words
abbrev pub Entry : Type 0
Entry = List ℕ

-- "Message words stand raw: 4,294,967,295 means absent (except in events, where it is plain). Offset words in events: 0 means absent."
-- "GUID words are its 16 bytes as little-endian words."
abbrev pub guid_words : Guid → List ℕ
guid_words g = g.a ∷ g.b ∷ g.c ∷ g.d ∷ []

-- "the new last word 1 or 0 (0 for an absent name)" of each entry with a name: 1 where a zero unit ended it (request 04)
abbrev pub ended_word : Name → ℕ
ended_word n = choose n.ended 1 0

-- "1 providers | 9 | GUID (4), WEVT offset, size, message, descriptor count, unknown2 count"
abbrev pub provider_words : Provider → Entry
provider_words p = guid_words p.guid ++ (p.offset ∷ p.size ∷ p.message ∷ length p.descriptors ∷ length p.unknown2 ∷ [])

-- "2 descriptors | 3 | offset, unknown, signature"
abbrev pub descriptor_words : Descriptor → Entry
descriptor_words d = d.offset ∷ d.unknown ∷ d.signature ∷ []

-- "3 unknown2 | 1 | word"
abbrev pub unknown2_words : ℕ → Entry
unknown2_words w = w ∷ []

-- "5 definitions | 12 | kind, identifier low, high, message, name offset, name start, name units, unknown, mui (4)"; "Definitions become
-- 13 words" (request 04)
abbrev pub definition_words : Definition → Entry
definition_words d =
    d.kind ∷ d.low ∷ d.high ∷ d.message ∷ d.offset ∷ d.name.start ∷ d.name.units ∷ d.unknown
    ∷ (guid_words d.mui ++ (ended_word d.name ∷ []))

-- "6 events | 16 | the 15 fields of `EventDefinition` in order, keywords as low then high"
abbrev pub event_words : Event → Entry
event_words e =
    e.identifier ∷ e.version ∷ e.channel ∷ e.level ∷ e.opcode ∷ e.task ∷ e.low ∷ e.high ∷ e.message ∷ e.template
    ∷ e.opcode_offset ∷ e.level_offset ∷ e.task_offset ∷ e.unknown_count ∷ e.unknown_offset ∷ e.flags ∷ []

-- "7 maps | 11 | 1 VMAP, 2 BMAP or 3 other; signature, offset, size, string offset, name start, units, first entry, count, data start,
-- data length"; "for BMAP and others size, string, first and count are 0"; "and maps 12" (request 04)
abbrev pub map_words : ℕ → Map → Entry
map_words before m =
    m.kind ∷ m.signature ∷ m.offset ∷ m.size ∷ m.string ∷ m.name.start ∷ m.name.units
    ∷ choose (eqb m.kind VALUE_MAP) before 0 ∷ m.count ∷ m.start ∷ m.length ∷ ended_word m.name ∷ []

-- "8 map entries | 2 | identifier, message"
abbrev pub map_entry_words : MapEntry → Entry
map_entry_words e = e.identifier ∷ e.message ∷ []

-- "9 templates | 12 | offset, size, descriptor count, name count, items offset, event type, GUID (4), binxml start, length"; "the provider
-- number as the first word of each template entry, 13 words now" (request 06)
abbrev pub template_words : ℕ → Template → Entry
template_words provider t =
    provider ∷ t.offset ∷ t.size ∷ t.descriptors ∷ t.names ∷ t.items_offset ∷ t.event ∷ (guid_words t.guid ++ (t.start ∷ t.length ∷ []))

-- "10 unknown elements | 4 | provider number, signature, offset, size"
abbrev pub unknown_words : ℕ → Unknown → Entry
unknown_words provider u = provider ∷ u.signature ∷ u.offset ∷ u.size ∷ []

-- "Items go to a new list of 9 words: template number; unknown1; the two types, input in the low byte; unknown3; unknown4; count and
-- length, count in the low half; name offset; name start; name units." (request 01); "items get it too" (request 04)
abbrev pub item_words : ℕ → Item → Entry
item_words template i =
    template ∷ i.unknown1 ∷ (i.input + 256 * i.output) ∷ i.unknown3 ∷ i.unknown4 ∷ (i.count + 65536 * i.length)
    ∷ i.offset ∷ i.name.start ∷ i.name.units ∷ ended_word i.name ∷ []

-- one table, or none
abbrev pub or_else : List Table → List Table → List Table
or_else [] ts = ts
or_else (t ∷ more) ts = t ∷ more

-- "A known kind named twice in one provider: each is checked, the last is kept." (layouts)
unfoldable pub last_of : ℕ → List Element → List Table
last_of k [] = []
last_of k (table t ∷ es) = or_else (last_of k es) (choose (eqb t.kind k) (t ∷ []) [])
last_of k (unknown u ∷ es) = last_of k es

-- a provider's tables, by kind
abbrev pub kept : List Element → List Table
kept es = flat (λ k. last_of k es) kinds

-- "Unknown ones are all kept" (layouts)
unfoldable pub unknowns : List Element → List Unknown
unknowns [] = []
unknowns (table t ∷ es) = unknowns es
unknowns (unknown u ∷ es) = u ∷ unknowns es

-- a table with its provider's number
pub record Owned : Type 0 where
  pub provider : ℕ
  pub table : Table

unfoldable pub owned_tables : ℕ → List Provider → List Owned
owned_tables n [] = []
owned_tables n (p ∷ ps) = map (λ t. record { provider = n; table = t }) (kept p.elements) ++ owned_tables (suc n) ps

unfoldable pub owned_unknowns : ℕ → List Provider → List Entry
owned_unknowns n [] = []
owned_unknowns n (p ∷ ps) = map (unknown_words n) (unknowns p.elements) ++ owned_unknowns (suc n) ps

-- the list that a table has its entries in, and how many they are
abbrev pub list_of : Rows → ℕ
list_of (definitions ds) = DEFINITIONS
list_of (events es) = EVENTS
list_of (maps ms) = MAPS
list_of (templates ts) = TEMPLATES

abbrev pub row_count : Rows → ℕ
row_count (definitions ds) = length ds
row_count (events es) = length es
row_count (maps ms) = length ms
row_count (templates ts) = length ts

-- what was written in each list, with one more table
abbrev pub after : List ℕ → Rows → List ℕ
after before r = more (list_of r) (row_count r) before

-- "4 tables | 9 | provider number, kind, offset, size, extra, first entry, count, trailing start, trailing length"
-- "First entry of an empty table or VMAP is the number of entries written before it."
abbrev pub table_words : List ℕ → Owned → Entry
table_words before o =
    o.provider ∷ o.table.kind ∷ o.table.offset ∷ o.table.size ∷ o.table.extra
    ∷ of (list_of o.table.rows) before ∷ row_count o.table.rows ∷ o.table.start ∷ o.table.length ∷ []

unfoldable pub table_entries : List ℕ → List Owned → List Entry
table_entries before [] = []
table_entries before (o ∷ os) = table_words before o ∷ table_entries (after before o.table.rows) os

-- the entries that a table has in each list
abbrev pub definitions_in : Rows → List Definition
definitions_in (definitions ds) = ds
definitions_in (events es) = []
definitions_in (maps ms) = []
definitions_in (templates ts) = []

abbrev pub events_in : Rows → List Event
events_in (definitions ds) = []
events_in (events es) = es
events_in (maps ms) = []
events_in (templates ts) = []

abbrev pub maps_in : Rows → List Mapped
maps_in (definitions ds) = []
maps_in (events es) = []
maps_in (maps ms) = ms
maps_in (templates ts) = []

abbrev pub templates_in : Rows → List Template
templates_in (definitions ds) = []
templates_in (events es) = []
templates_in (maps ms) = []
templates_in (templates ts) = ts

unfoldable pub map_list : ℕ → List Mapped → List Entry
map_list n [] = []
map_list n (m ∷ ms) = map_words n m.map ∷ map_list (n + length m.entries) ms

-- the items of some templates, by the number of the first of these
unfoldable pub item_list : ℕ → List Template → List Entry
item_list n [] = []
item_list n (t ∷ ts) = map (item_words n) t.items ++ item_list (suc n) ts

-- the lists, in the order of their rows
unfoldable pub lists : List Provider → List (List Entry)
lists ps =
    let tables = owned_tables 0 ps in
    let all-maps = flat (λ o. maps_in o.table.rows) tables in
    map provider_words ps
    ∷ flat (λ p. map descriptor_words p.descriptors) ps
    ∷ flat (λ p. map unknown2_words p.unknown2) ps
    ∷ table_entries none tables
    ∷ flat (λ o. map definition_words (definitions_in o.table.rows)) tables
    ∷ flat (λ o. map event_words (events_in o.table.rows)) tables
    ∷ map_list 0 all-maps
    ∷ flat (λ m. map map_entry_words m.entries) all-maps
    ∷ flat (λ o. map (template_words o.provider) (templates_in o.table.rows)) tables
    ∷ owned_unknowns 0 ps
    ∷ item_list 0 (flat (λ o. templates_in o.table.rows) tables)
    ∷ []
