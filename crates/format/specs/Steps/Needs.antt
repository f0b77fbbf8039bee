-- How many entries a list needs, as far as anyone asks: no capacity is over 65,536, so a need may stop rising once it is past that.
use Rattle.std.specs.Prelude.{ℕ, ◌+◌, ◌≤◌, List, [], ◌∷◌, map, length, set, Result}
use Rattle.blob.specs.declared.Refusal.{Refusal}
use Rattle.blob.specs.Places.{Each}
use Rattle.blob.specs.Reading.{Outcome, as_result}
use Rattle.blob.specs.Laid.{flat}
use Rattle.format.specs.Area.{place, of}
use Rattle.format.specs.Item.{Item}
use Rattle.format.specs.Template.{Template}
use Rattle.format.specs.Map.{Mapped}
use Rattle.format.specs.Provider.{Rows, definitions, events, maps, templates, Table, Element, table, unknown, Provider}
use Rattle.format.specs.Lists.{kept, unknowns, after, definitions_in, events_in, maps_in, templates_in}
use Rattle.format.specs.Answer.{capped}
use Rattle.format.specs.declared.MapEntry.{MapEntry}

-- how many all of them have
unfoldable pub total : {A : Type 0} → (A → ℕ) → List A → ℕ
total f [] = 0
total f (a ∷ vs) = f a + total f vs

-- the entries of some maps, the items of some templates, and what of these a table has
abbrev pub entry_count : List Mapped → ℕ
entry_count ms = total (λ m. length m.entries) ms

abbrev pub item_count : List Template → ℕ
item_count ts = total (λ t. length t.items) ts

abbrev pub inner : Rows → ℕ
inner (definitions ds) = 0
inner (events es) = 0
inner (maps ms) = entry_count ms
inner (templates ts) = item_count ts

-- what was written in each list, with some more tables
unfoldable pub after_all : List ℕ → List Table → List ℕ
after_all before [] = before
after_all before (t ∷ ts) = after_all (after before t.rows) ts

-- what the code answers where something is counted: of a MAPS, of a TTBL, of any table and of an element
abbrev pub count_read : {A : Type 0} → (A → ℕ) → Outcome A → Result ℕ Refusal
count_read count o = as_result (λ a. capped (count a)) o

abbrev pub maps_read : Outcome (List Mapped) → Result ℕ Refusal
maps_read o = count_read entry_count o

abbrev pub templates_read : Outcome (List Template) → Result ℕ Refusal
templates_read o = count_read item_count o

abbrev pub table_read : Outcome Table → Result ℕ Refusal
table_read o = count_read (λ t. inner t.rows) o

abbrev pub entries_of : Element → ℕ
entries_of (table t) = inner t.rows
entries_of (unknown u) = 0

abbrev pub element_read : Outcome Element → Result ℕ Refusal
element_read o = count_read entries_of o

-- where a kept table stands; 4,294,967,295, which is no place of a blob, where none is kept
abbrev pub place_of : List Table → ℕ
place_of [] = 4294967295
place_of (t ∷ ts) = t.offset

-- what a provider's kept tables have, in their order
abbrev pub of_tables : {B : Type 0} → (Rows → List B) → Provider → List B
of_tables items p = flat (λ t. items t.rows) (kept p.elements)

abbrev pub entries_in : Rows → List MapEntry
entries_in r = flat (λ m. m.entries) (maps_in r)

abbrev pub items_in : Rows → List Item
items_in r = flat (λ t. t.items) (templates_in r)

-- how many entries each list has of a provider, in the order of the rows
abbrev pub has : List (Provider → ℕ)
has =
    (λ p. 1)
    ∷ (λ p. length p.descriptors)
    ∷ (λ p. length p.unknown2)
    ∷ (λ p. length (kept p.elements))
    ∷ (λ p. length (of_tables definitions_in p))
    ∷ (λ p. length (of_tables events_in p))
    ∷ (λ p. length (of_tables maps_in p))
    ∷ (λ p. length (of_tables entries_in p))
    ∷ (λ p. length (of_tables templates_in p))
    ∷ (λ p. length (unknowns p.elements))
    ∷ (λ p. length (of_tables items_in p))
    ∷ []

abbrev pub needs_of : Provider → List ℕ
needs_of p = map (λ f. f p) has

-- two needs together, as far as anyone asks
unfoldable pub plus : List ℕ → List ℕ → List ℕ
plus [] ys = []
plus (x ∷ xs) [] = []
plus (x ∷ xs) (y ∷ ys) = capped (x + y) ∷ plus xs ys

-- so many more in a list, as far as anyone asks
abbrev pub grown : ℕ → ℕ → List ℕ → List ℕ
grown l n ns = set ns (place l) (capped (of l ns + n))

-- no number is past where it stops rising
abbrev pub modest : List ℕ → Type 0
modest ns = Each (λ n. n ≤ 65537) ns

-- what each list needs for some providers, with what is needed before them
unfoldable pub needs_all : List ℕ → List Provider → List ℕ
needs_all ns [] = ns
needs_all ns (p ∷ ps) = needs_all (plus ns (needs_of p)) ps

-- what the code answers for a provider, and for some
abbrev pub provider_read : List ℕ → Outcome Provider → Result (List ℕ) Refusal
provider_read ns o = as_result (λ p. plus ns (needs_of p)) o

abbrev pub providers_read : List ℕ → Outcome (List Provider) → Result (List ℕ) Refusal
providers_read ns o = as_result (λ ps. needs_all ns ps) o
