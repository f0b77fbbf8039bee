-- What a list has of a table, of a provider and of some providers, as it is filled: by the provider's number, and by how many entries were
-- written before in each list. (Listed shows that this is what Lists says.)
use Rattle.std.specs.Prelude.{ℕ, suc, ◌≤◌, ◌≡◌, List, [], ◌∷◌, ◌++◌, length, get_or, eqb}
use Rattle.blob.specs.Reading.{choose}
use Rattle.blob.specs.Laid.{flat, laid}
use Rattle.format.specs.Area.{PROVIDERS, DESCRIPTORS, UNKNOWN2, TABLES, DEFINITIONS, EVENTS, MAPS, ENTRIES, TEMPLATES, UNKNOWN, ITEMS, rows, of, more}
use Rattle.format.specs.Provider.{Table, Provider}
use Rattle.format.specs.Lists.{provider_words, descriptor_words, unknown2_words, table_words, definition_words, event_words, map_list, map_entry_words, template_words, item_list, unknown_words, kept, unknowns, after, definitions_in, events_in, maps_in, templates_in}
use Rattle.format.specs.Steps.Needs.{entry_count}

-- no number is more than a list can have entries
abbrev pub Few : List ℕ → Type 0
Few ns = (i : ℕ) → get_or ns i 0 ≤ 65536

-- a few for each list
abbrev pub Counted : List ℕ → Type 0
Counted ns = Few ns × (length ns ≡ length rows)

-- an area has room for some words, and no list has too many entries behind them
pub record Room (words behind area : List ℕ) : Type 0 where
  pub fits : length words ≤ length area
  pub few : Counted behind

-- so many words were stored in an area from its start on, and so many entries are written behind them in each list
pub record Stored (words behind area : List ℕ) (n : ℕ) (behind' area' : List ℕ) : Type 0 where
  pub count : n ≡ length words
  pub behind-is : behind' ≡ behind
  pub area_is : area' ≡ laid area 0 words

-- the words that a list has of a table
unfoldable pub table_part : ℕ → ℕ → List ℕ → Table → List ℕ
table_part l n before t =
    choose (eqb l TABLES) (table_words before (record { provider = n; table = t })) (
    choose (eqb l DEFINITIONS) (flat definition_words (definitions_in t.rows)) (
    choose (eqb l EVENTS) (flat event_words (events_in t.rows)) (
    choose (eqb l MAPS) (flat (λ e. e) (map_list (of ENTRIES before) (maps_in t.rows))) (
    choose (eqb l ENTRIES) (flat (λ m. flat map_entry_words m.entries) (maps_in t.rows)) (
    choose (eqb l ITEMS) (flat (λ e. e) (item_list (of TEMPLATES before) (templates_in t.rows)))
    (flat (template_words n) (templates_in t.rows)))))))

-- what is written behind it: list 4 counts its entries, list 7 its maps' entries, list 12 its templates
abbrev pub behind : ℕ → List ℕ → Table → List ℕ
behind l before t =
    choose (eqb l TABLES) (after before t.rows) (
    choose (eqb l MAPS) (more ENTRIES (entry_count (maps_in t.rows)) before) (
    choose (eqb l ITEMS) (more TEMPLATES (length (templates_in t.rows)) before) before))

-- the same of some tables
unfoldable pub table_parts : ℕ → ℕ → List ℕ → List Table → List ℕ
table_parts l n before [] = []
table_parts l n before (t ∷ ts) = table_part l n before t ++ table_parts l n (behind l before t) ts

unfoldable pub behind_all : ℕ → List ℕ → List Table → List ℕ
behind_all l before [] = before
behind_all l before (t ∷ ts) = behind_all l (behind l before t) ts

-- an area has room for what a list has of some tables, and it was stored there
abbrev pub TablesRoom : ℕ → ℕ → List ℕ → List Table → List ℕ → Type 0
TablesRoom l n before ts area = Room (table_parts l n before ts) (behind_all l before ts) area

abbrev pub TablesStored : ℕ → ℕ → List ℕ → List Table → List ℕ → ℕ → List ℕ → List ℕ → Type 0
TablesStored l n before ts area k before' area' = Stored (table_parts l n before ts) (behind_all l before ts) area k before' area'

-- by the list's number: one that goes over providers, or over their tables
abbrev pub by_list : {A : Type 0} → ℕ → A → A → A → A → A → A
by_list l a b c d e = choose (eqb l PROVIDERS) a (choose (eqb l DESCRIPTORS) b (choose (eqb l UNKNOWN2) c (choose (eqb l UNKNOWN) d e)))

-- the words that a list has of a provider
unfoldable pub part : ℕ → ℕ → List ℕ → Provider → List ℕ
part l n before p =
    by_list l
    (provider_words p)
    (flat descriptor_words p.descriptors)
    (flat unknown2_words p.unknown2)
    (flat (unknown_words n) (unknowns p.elements))
    (table_parts l n before (kept p.elements))

-- what is written behind it
abbrev pub passed : ℕ → List ℕ → Provider → List ℕ
passed l before p = behind_all l before (kept p.elements)

-- the same of some providers
unfoldable pub parts : ℕ → ℕ → List ℕ → List Provider → List ℕ
parts l n before [] = []
parts l n before (p ∷ ps) = part l n before p ++ parts l (suc n) (passed l before p) ps

unfoldable pub passed_all : ℕ → List ℕ → List Provider → List ℕ
passed_all l before [] = before
passed_all l before (p ∷ ps) = passed_all l (passed l before p) ps
