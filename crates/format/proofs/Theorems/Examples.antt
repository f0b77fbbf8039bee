-- Computed examples of what the proved cases do not reach: the lent words after a reading, 9, replaced tables, names that run out, the
-- words of a definition and of a map, the fields of an item, both lookups, the handle.
use Rattle.std.specs.Prelude.{ℕ, ◌≡◌, refl, true, false, List, [], ◌∷◌, ◌++◌, map, length, get_or, replicate, Ok, Err, Some, None}
use Rattle.blob.specs.Le.{le}
use Rattle.blob.specs.Reading.{Outcome, done, refused, demand, run, ◌>>=◌, number}
use Rattle.blob.specs.Laid.{laid, flat}
use Rattle.format.specs.Table.{CHAN, LEVL, TTBL}
use Rattle.format.specs.Entry.{TABLE_FIRST, TEMPLATE_PROVIDER}
use Rattle.format.specs.Name.{text, sized, name_at, absent}
use Rattle.format.specs.Region.{blob_end, until, inside}
use Rattle.format.specs.Item.{Item, item_name_at, item_at}
use Rattle.format.specs.Template.{Template}
use Rattle.format.specs.Map.{BMAP, other_map, Mapped}
use Rattle.format.specs.Provider.{Rows, definitions, events, maps, templates, Element, table, unknown, Provider}
use Rattle.format.specs.Area.{PROVIDERS, TABLES, EVENTS, MAPS, TEMPLATES, GUIDS, rows, place, none, more}
use Rattle.format.specs.Lists.{Entry, Owned, last_of, kept, map_list, definition_words, map_words, item_words, item_list, owned_tables, table_entries, lists}
use Rattle.format.specs.Answer.{areas, filled, moderate, own, too_small, with_room}
use Rattle.format.specs.Lookup.{alike, among, by_key, by_offset, counts_fit, entries_from, every, guids_held, guids_of, once, position, positions, select, table_fits, word_of}
use Rattle.format.specs.Handle.{shown}
use Rattle.format.specs.declared.Name.{Name}
use Rattle.format.specs.declared.Event.{Event}
use Rattle.format.specs.declared.Definition.{Definition}
use Rattle.format.specs.declared.Map.{Map}
use Rattle.format.specs.declared.MapEntry.{MapEntry}
use Rattle.format.specs.declared.Key.{Key}

-- two areas one after another: the entries at each area's start, all other words kept
areas-in_a_row : filled (replicate 9 7) 0 (record { number = 5; words = 2 } ∷ record { number = 9; words = 1 } ∷ []) (2 ∷ 2 ∷ []) (((1 ∷ 2 ∷ []) ∷ []) ∷ ((3 ∷ []) ∷ (4 ∷ []) ∷ []) ∷ [])
    ≡ 1 ∷ 2 ∷ 7 ∷ 7 ∷ 3 ∷ 4 ∷ 7 ∷ 7 ∷ 7 ∷ []
unfolding filled laid flat
areas-in_a_row = refl

-- 9 for the lowest-numbered list that is too small
second-too_small : with_room {A = ℕ} rows (1 ∷ 0 ∷ 0 ∷ []) (([] ∷ []) ∷ ([] ∷ []) ∷ ([] ∷ []) ∷ []) 5 ≡ refused (too_small 2 0)
unfolding with_room
second-too_small = refl

-- of two tables of a kind the last is kept, whatever stands between; the kinds come in their order, not the file's
abbrev a_table : ℕ → ℕ → Element
a_table k at = table (record { kind = k; offset = at; size = 0; extra = 0; rows = definitions []; start = 0; length = 0 })

last-kept : kept (a_table LEVL 10 ∷ a_table CHAN 20 ∷ unknown (record { signature = 1; offset = 2; size = 3 }) ∷ a_table LEVL 30 ∷ [])
    ≡ record { kind = CHAN; offset = 20; size = 0; extra = 0; rows = definitions []; start = 0; length = 0 }
    ∷ record { kind = LEVL; offset = 30; size = 0; extra = 0; rows = definitions []; start = 0; length = 0 }
    ∷ []
unfolding last_of flat
last-kept = refl

-- the first entries of tables, each among those of its own list: of a second MAPS behind two maps, of a second EVNT behind one event, and
-- of a VMAP behind two map entries
abbrev a_map : ℕ → List MapEntry → Mapped
a_map k es =
    record {
      map = record { kind = k; signature = 0; offset = 0; size = 0; string = 0; name = record { start = 0; units = 0; ended = false }; count = length es; start = 0; length = 0 };
      entries = es;
    }

abbrev an_event : Event
an_event =
    record { identifier = 0; version = 0; channel = 0; level = 0; opcode = 0; task = 0; low = 0; high = 0; message = 0; template = 0; opcode_offset = 0; level_offset = 0; task_offset = 0; unknown_count = 0; unknown_offset = 0; flags = 0 }

abbrev owned : Rows → Owned
owned rs = record { provider = 0; table = record { kind = 0; offset = 0; size = 0; extra = 0; rows = rs; start = 0; length = 0 } }

first_entries : map (word_of TABLE_FIRST) (table_entries none (
    owned (events (an_event ∷ [])) ∷ owned (maps (a_map 1 [] ∷ a_map 2 [] ∷ [])) ∷ owned (events []) ∷ owned (maps []) ∷ owned (templates []) ∷ []))
    ≡ 0 ∷ 0 ∷ 1 ∷ 2 ∷ 0 ∷ []
unfolding table_entries
first_entries = refl

-- whether a zero unit ended a name: one of size 4, a lone zero unit, a text with one behind it, and a text that ran out
abbrev a_name : ℕ → List ℕ → Outcome Name
a_name size units = run (name_at blob_end 0 1) (0 ∷ size ∷ 0 ∷ 0 ∷ 0 ∷ units)

names-ended : a_name 4 [] ∷ a_name 6 (0 ∷ 0 ∷ []) ∷ a_name 8 (65 ∷ 0 ∷ 0 ∷ 0 ∷ []) ∷ a_name 8 (65 ∷ 0 ∷ 66 ∷ 0 ∷ []) ∷ []
    ≡ done (record { start = 5; units = 0; ended = false })
    ∷ done (record { start = 5; units = 0; ended = true })
    ∷ done (record { start = 5; units = 1; ended = true })
    ∷ done (record { start = 5; units = 2; ended = false })
    ∷ []
unfolding run ◌>>=◌ number le demand name_at sized inside text
names-ended = refl

-- a definition's words and a map's, each in its place, and the last one by the name
abbrev a_definition : Name → Definition
a_definition n =
    record { kind = 1; low = 2; high = 3; message = 4; offset = 5; name = n; unknown = 8; mui = record { a = 9; b = 10; c = 11; d = 12 } }

definition_words_lem : map (λ e. definition_words (a_definition (record { start = 6; units = 7; ended = e }))) (true ∷ false ∷ [])
    ≡ (1 ∷ 2 ∷ 3 ∷ 4 ∷ 5 ∷ 6 ∷ 7 ∷ 8 ∷ 9 ∷ 10 ∷ 11 ∷ 12 ∷ 1 ∷ [])
    ∷ (1 ∷ 2 ∷ 3 ∷ 4 ∷ 5 ∷ 6 ∷ 7 ∷ 8 ∷ 9 ∷ 10 ∷ 11 ∷ 12 ∷ 0 ∷ [])
    ∷ []
definition_words_lem = refl

nameless_definition : definition_words (a_definition absent) ≡ 1 ∷ 2 ∷ 3 ∷ 4 ∷ 5 ∷ 0 ∷ 0 ∷ 8 ∷ 9 ∷ 10 ∷ 11 ∷ 12 ∷ 0 ∷ []
nameless_definition = refl

abbrev a_value_map : Name → Map
a_value_map n = record { kind = 1; signature = 2; offset = 3; size = 4; string = 5; name = n; count = 9; start = 10; length = 11 }

map-words : map (λ e. map_words 8 (a_value_map (record { start = 6; units = 7; ended = e }))) (true ∷ false ∷ [])
    ≡ (1 ∷ 2 ∷ 3 ∷ 4 ∷ 5 ∷ 6 ∷ 7 ∷ 8 ∷ 9 ∷ 10 ∷ 11 ∷ 1 ∷ [])
    ∷ (1 ∷ 2 ∷ 3 ∷ 4 ∷ 5 ∷ 6 ∷ 7 ∷ 8 ∷ 9 ∷ 10 ∷ 11 ∷ 0 ∷ [])
    ∷ []
map-words = refl

other_map_words : map_words 8 (other_map (until 20) 16 BMAP).map ≡ 2 ∷ BMAP ∷ 16 ∷ 0 ∷ 0 ∷ 0 ∷ 0 ∷ 0 ∷ 0 ∷ 16 ∷ 4 ∷ 0 ∷ []
other_map_words = refl

-- an item's fields, each at its place and each in its word; and of which template it is one
abbrev an_item : Item
an_item = record { unknown1 = 1; input = 2; output = 3; unknown3 = 4; unknown4 = 5; count = 6; length = 7; offset = 0; name = absent }

item_fields : run (item_at 0 20 0) (1 ∷ 0 ∷ 0 ∷ 0 ∷ 2 ∷ 3 ∷ 4 ∷ 0 ∷ 5 ∷ 0 ∷ 0 ∷ 0 ∷ 6 ∷ 0 ∷ 7 ∷ 0 ∷ 0 ∷ 0 ∷ 0 ∷ 0 ∷ []) ≡ done an_item
unfolding run ◌>>=◌ number demand item_at item_name_at name_at
item_fields = refl

item_words_lem : item_words 9 an_item ≡ 9 ∷ 1 ∷ 770 ∷ 4 ∷ 5 ∷ 458758 ∷ 0 ∷ 0 ∷ 0 ∷ 0 ∷ []
item_words_lem = refl

abbrev a_template : List Item → Template
a_template is =
    record { offset = 0; size = 0; descriptors = 0; names = 0; items_offset = 0; event = 0; guid = record { a = 0; b = 0; c = 0; d = 0 }; start = 0; length = 0; items = is }

item_templates : map (word_of 0) (item_list 5 (a_template (an_item ∷ an_item ∷ []) ∷ a_template [] ∷ a_template (an_item ∷ []) ∷ [])) ≡ 5 ∷ 5 ∷ 7 ∷ []
unfolding item_list
item_templates = refl

-- a template's provider is the one that it was read for, by its number in list 1: of three, of which the first has another table too and
-- the second has none
abbrev a_provider : List Element → Provider
a_provider es =
    record { guid = record { a = 0; b = 0; c = 0; d = 0 }; offset = 0; size = 0; message = 0; descriptors = []; unknown2 = []; elements = es }

abbrev a_ttbl : List Template → Element
a_ttbl ts = table (record { kind = TTBL; offset = 0; size = 0; extra = 0; rows = templates ts; start = 0; length = 0 })

template_providers : map (word_of TEMPLATE_PROVIDER) (get_or (lists (
    a_provider (a_table LEVL 10 ∷ a_ttbl (a_template [] ∷ a_template [] ∷ []) ∷ []) ∷ a_provider [] ∷ a_provider (a_ttbl (a_template [] ∷ []) ∷ []) ∷ [])) (place TEMPLATES) [])
    ≡ 0 ∷ 0 ∷ 2 ∷ []
unfolding lists owned_tables last_of flat
template_providers = refl

first_map_entries : map (word_of 7) (map_list 5 (
    a_map 1 (record { identifier = 1; message = 2 } ∷ record { identifier = 3; message = 4 } ∷ []) ∷ a_map 2 [] ∷ a_map 1 [] ∷ []))
    ≡ 5 ∷ 0 ∷ 7 ∷ []
unfolding map_list
first_map_entries = refl

-- one provider with GUID 1 2 3 4, an EVNT and a TTBL; three events with one key, of which the last two have a template; three templates,
-- two of them at 76
abbrev some : List ℕ
some = more PROVIDERS 1 (more TABLES 2 (more EVENTS 3 (more TEMPLATES 3 none)))

abbrev event : ℕ → List ℕ
event at = 10 ∷ 1 ∷ 2 ∷ 3 ∷ 4 ∷ 5 ∷ 6 ∷ 7 ∷ 0 ∷ at ∷ replicate 6 0

abbrev temp : ℕ → ℕ → ℕ → List ℕ
temp provider at g = provider ∷ at ∷ 40 ∷ 0 ∷ 0 ∷ 0 ∷ 0 ∷ g ∷ g ∷ g ∷ g ∷ 0 ∷ 0 ∷ []

-- the words, with the kind of the second table and the provider of the second template
abbrev words : ℕ → ℕ → List ℕ
words kind provider =
    (1 ∷ 2 ∷ 3 ∷ 4 ∷ replicate 5 0)
    ++ (0 ∷ 2 ∷ 0 ∷ 0 ∷ 0 ∷ 0 ∷ 3 ∷ 0 ∷ 0 ∷ [])
    ++ (0 ∷ kind ∷ 0 ∷ 0 ∷ 0 ∷ 0 ∷ 3 ∷ 0 ∷ 0 ∷ [])
    ++ event 0 ++ event 76 ++ event 76
    ++ temp 0 50 5 ++ temp provider 76 8 ++ temp 0 76 9

-- the same with a map, for which there is no room
abbrev one_map : List ℕ
one_map = more MAPS 1 some

abbrev key : ℕ → Key
key version = record { guid = record { a = 1; b = 2; c = 3; d = 4 }; identifier = 10; version = version; channel = 2; level = 3; opcode = 4; task = 5; low = 6; high = 7 }

abbrev lookup : ℕ → ℕ → List ℕ → Outcome (List Entry)
lookup kind version lent = by_key (words kind 0) some some (key version) lent

-- the lowest template of an offset, within the range; none; a range past the list; a count over its capacity; too few words
lowest : by_offset (words 8 0) some some 0 0 3 76 ≡ Ok (Some 1)
unfolding by_offset moderate areas counts_fit entries_from position
lowest = refl

within-the_range : by_offset (words 8 0) some some 0 2 1 76 ≡ Ok (Some 2)
unfolding by_offset moderate areas counts_fit entries_from position
within-the_range = refl

none-there : by_offset (words 8 0) some some 0 0 3 77 ≡ Ok None
unfolding by_offset moderate areas counts_fit entries_from position
none-there = refl

-- another provider's at the offset is no match, and the search goes on behind it; the number is compared and no more
anothers_passed : by_offset (words 8 7) some some 0 0 3 76 ≡ Ok (Some 2)
unfolding by_offset moderate areas counts_fit entries_from position
anothers_passed = refl

only-compared : by_offset (words 8 7) some some 7 0 3 76 ≡ Ok (Some 1)
unfolding by_offset moderate areas counts_fit entries_from position
only-compared = refl

none-of_it : by_offset (words 8 0) some some 7 0 3 76 ≡ Ok None
unfolding by_offset moderate areas counts_fit entries_from position
none-of_it = refl

past_the_list : by_offset (words 8 0) some some 0 4 0 76 ≡ Err (own 10)
unfolding by_offset moderate areas counts_fit
past_the_list = refl

over_capacity : by_offset (words 8 0) some one_map 0 0 3 76 ≡ Err (own 10)
unfolding by_offset moderate areas counts_fit
over_capacity = refl

too_few_words : by_offset [] some some 0 4 0 76 ≡ Err (own 8)
unfolding by_offset moderate areas
too_few_words = refl

-- by key: the GUID of the lowest template, once; nothing for another key; 9 where it does not fit; 10 for a kind that is none; 10 before 9 for a count over its capacity
given-once : lookup 8 1 (replicate 5 0) ≡ done ((8 ∷ 8 ∷ 8 ∷ 8 ∷ []) ∷ [])
unfolding by_key guids_of moderate areas counts_fit entries_from positions every select alike among once flat
given-once = refl

written_once : guids_held (replicate 5 0) (lookup 8 1 (replicate 5 0)) ≡ 8 ∷ 8 ∷ 8 ∷ 8 ∷ 0 ∷ []
unfolding by_key guids_of moderate areas counts_fit entries_from positions every select alike among once flat laid
written_once = refl

another_key : lookup 8 2 [] ≡ done []
unfolding by_key guids_of moderate areas counts_fit entries_from positions every select alike among once flat
another_key = refl

no_room : lookup 8 1 (replicate 3 0) ≡ refused (too_small GUIDS 0)
unfolding by_key guids_of moderate areas counts_fit entries_from positions every select alike among once flat
no_room = refl

no_kind : lookup 9 1 [] ≡ refused (own 10)
unfolding by_key guids_of moderate areas counts_fit entries_from positions every select alike among once flat
no_kind = refl

ten_before_nine : by_key (words 8 0) some one_map (key 1) [] ≡ refused (own 10)
unfolding by_key guids_of moderate areas counts_fit entries_from positions every select alike among once flat
ten_before_nine = refl

-- Two providers of one GUID, with a third between them, and four events with one key: of the first provider at 50 and 90, of the last at
-- 76 and 60. The first has a template at 50, the last at 76, 60 and 90; those at 50 and 60 have one GUID. With how many of the events each
-- has, and which is the last provider's first.
abbrev three : List ℕ
three = more PROVIDERS 3 (more TABLES 5 (more EVENTS 4 (more TEMPLATES 4 none)))

abbrev of_two : ℕ → ℕ → List ℕ
of_two n first =
    (1 ∷ 2 ∷ 3 ∷ 4 ∷ replicate 5 0) ++ (1 ∷ 2 ∷ 3 ∷ 5 ∷ replicate 5 0) ++ (1 ∷ 2 ∷ 3 ∷ 4 ∷ replicate 5 0)
    ++ (2 ∷ 8 ∷ 0 ∷ 0 ∷ 0 ∷ 1 ∷ 3 ∷ 0 ∷ 0 ∷ [])
    ++ (2 ∷ 2 ∷ 0 ∷ 0 ∷ 0 ∷ first ∷ n ∷ 0 ∷ 0 ∷ [])
    ++ (1 ∷ 2 ∷ 0 ∷ 0 ∷ 0 ∷ 0 ∷ 4 ∷ 0 ∷ 0 ∷ [])
    ++ (0 ∷ 2 ∷ 0 ∷ 0 ∷ 0 ∷ 0 ∷ n ∷ 0 ∷ 0 ∷ [])
    ++ (0 ∷ 8 ∷ 0 ∷ 0 ∷ 0 ∷ 0 ∷ 1 ∷ 0 ∷ 0 ∷ [])
    ++ event 50 ++ event 90 ++ event 76 ++ event 60
    ++ temp 0 50 5 ++ temp 2 76 8 ++ temp 2 60 5 ++ temp 2 90 9

-- in the order of the providers, each event in its own provider's templates, a GUID once over both; 9 counts that total
both_providers : by_key (of_two 2 2) three three (key 1) (replicate 8 0) ≡ done ((5 ∷ 5 ∷ 5 ∷ 5 ∷ []) ∷ (8 ∷ 8 ∷ 8 ∷ 8 ∷ []) ∷ [])
unfolding by_key guids_of moderate areas counts_fit entries_from positions every select alike among once flat
both_providers = refl

no-room_for_both : by_key (of_two 2 2) three three (key 1) (replicate 7 0) ≡ refused (too_small GUIDS 1)
unfolding by_key guids_of moderate areas counts_fit entries_from positions every select alike among once flat
no-room_for_both = refl

-- events that damaged lists give to both are gone through for each
events-of_both : by_key (of_two 4 0) three three (key 1) (replicate 12 0) ≡ done ((5 ∷ 5 ∷ 5 ∷ 5 ∷ []) ∷ (9 ∷ 9 ∷ 9 ∷ 9 ∷ []) ∷ (8 ∷ 8 ∷ 8 ∷ 8 ∷ []) ∷ [])
unfolding by_key guids_of moderate areas counts_fit entries_from positions every select alike among once flat
events-of_both = refl

-- 10 for a TTBL whose range has another provider's template: the one that is used, and one that is not, but not for a template in no
-- TTBL's range. A provider with an EVNT, a TTBL over the first template and another TTBL with some range; the last template is another's
abbrev two_ttbls : List ℕ
two_ttbls = more TABLES 1 some

abbrev second : ℕ → ℕ → List ℕ
second first n =
    (1 ∷ 2 ∷ 3 ∷ 4 ∷ replicate 5 0)
    ++ (0 ∷ 2 ∷ 0 ∷ 0 ∷ 0 ∷ 0 ∷ 3 ∷ 0 ∷ 0 ∷ [])
    ++ (0 ∷ 8 ∷ 0 ∷ 0 ∷ 0 ∷ 0 ∷ 1 ∷ 0 ∷ 0 ∷ [])
    ++ (0 ∷ 8 ∷ 0 ∷ 0 ∷ 0 ∷ first ∷ n ∷ 0 ∷ 0 ∷ [])
    ++ event 0 ++ event 76 ++ event 76
    ++ temp 0 76 5 ++ temp 0 76 8 ++ temp 1 76 9

anothers_used : by_key (words 8 1) some some (key 1) [] ≡ refused (own 10)
unfolding by_key guids_of moderate areas counts_fit entries_from positions every select alike among once flat
anothers_used = refl

anothers_not_used : by_key (second 1 2) two_ttbls two_ttbls (key 1) [] ≡ refused (own 10)
unfolding by_key guids_of moderate areas counts_fit entries_from positions every select alike among once flat
anothers_not_used = refl

anothers_in_no_range : by_key (second 1 1) two_ttbls two_ttbls (key 1) (replicate 4 0) ≡ done ((5 ∷ 5 ∷ 5 ∷ 5 ∷ []) ∷ [])
unfolding by_key guids_of moderate areas counts_fit entries_from positions every select alike among once flat
anothers_in_no_range = refl

-- a table entry with an empty range, of a kind and of none
eighth_kind : table_fits some (0 ∷ 8 ∷ replicate 7 0) ≡ true
eighth_kind = refl

ninth_kind : table_fits some (0 ∷ 9 ∷ replicate 7 0) ≡ false
ninth_kind = refl

-- the handle shows a part, or the empty part
part : shown (1 ∷ 2 ∷ 3 ∷ 4 ∷ []) 3 1 2 ≡ 2 ∷ 3 ∷ []
unfolding shown
part = refl

past_the_size : shown (1 ∷ 2 ∷ 3 ∷ 4 ∷ []) 3 2 2 ≡ []
unfolding shown
past_the_size = refl

past_the_bytes : shown (1 ∷ 2 ∷ 3 ∷ 4 ∷ []) 5 0 1 ≡ []
unfolding shown
past_the_bytes = refl
