-- Filling by Parts is what Lists says: the words of a list are those that are stored, provider by provider and table by table.
use Prim.{Unit, tt}
use Rattle.std.specs.Prelude.{ℕ, zero, suc, ◌+◌, ◌<◌, ◌≡◌, get_or}
use Rattle.std.proofs.Math.Path.{refl, ap, ap₂, sym}
use Rattle.std.proofs.Common.{◌∙◌, add-zero, add_assoc, arith, get_or-set_same}
use mathlib.Core.List.{List, [], ◌∷◌, ◌++◌, map, append_assoc}
use Rattle.std.proofs.Math.ListN.{length, length-set}
use Rattle.blob.specs.Laid.{flat, flat_append, flat-single, flat_map, flat-flat, map-flat}
use Rattle.format.specs.Template.{Template}
use Rattle.format.specs.Map.{Mapped}
use Rattle.format.specs.Provider.{Rows, Table, Provider}
use Rattle.format.specs.Lists.{Entry, provider_words, descriptor_words, unknown2_words, definition_words, event_words, map_entry_words, template_words, item_words, unknown_words, kept, unknowns, Owned, owned_tables, owned_unknowns, table_entries, definitions_in, events_in, maps_in, templates_in, map_list, item_list, lists}
use Rattle.format.specs.Area.{PROVIDERS, DESCRIPTORS, UNKNOWN2, TABLES, DEFINITIONS, EVENTS, MAPS, ENTRIES, TEMPLATES, UNKNOWN, ITEMS, rows, place, none, of, more}
use Rattle.format.specs.Steps.Needs.{total, entry_count, of_tables, entries_in}
use Rattle.format.specs.Steps.Parts.{table_part, table_parts, behind, behind_all, part, passed, parts}
use Rattle.format.proofs.Theorems.Grows.{behind_all-length}

abbrev pub owned : ℕ → List Table → List Owned
owned n ts = map (λ t. record { provider = n; table = t }) ts

-- the tables with their providers' numbers have what the tables have
owned-flat : {B : Type 0} (items : Rows → List B) (n : ℕ) (ps : List Provider) → flat (λ o. items o.table.rows) (owned_tables n ps) ≡ flat (of_tables items) ps
unfolding flat owned_tables
owned-flat items n [] = refl
owned-flat {B} items n (p ∷ ps) =
    let f : Owned → List B = λ o. items o.table.rows in
    flat_append f (owned n (kept p.elements)) (owned_tables (suc n) ps)
    ∙ rw (flat_map f (λ t. record { provider = n; table = t }) (kept p.elements), owned-flat items (suc n) ps)

-- a list that has words of what each table has, with the number of the table's provider
abbrev pub owned_words : {B : Type 0} → (ℕ → B → Entry) → (Rows → List B) → ℕ → List Provider → List Entry
owned_words words items n ps = flat (λ o. map (words o.provider) (items o.table.rows)) (owned_tables n ps)

-- of a provider, and then of the others
pub owned_then : {B : Type 0} (words : ℕ → B → Entry) (items : Rows → List B) (n : ℕ) (p : Provider) (ps : List Provider)
    → owned_words words items n (p ∷ ps) ≡ map (words n) (of_tables items p) ++ owned_words words items (suc n) ps
unfolding owned_tables
owned_then words items n p ps =
    let f : Owned → List Entry = λ o. map (words o.provider) (items o.table.rows) in
    flat_append f (owned n (kept p.elements)) (owned_tables (suc n) ps)
    ∙ rw (flat_map f (λ t. record { provider = n; table = t }) (kept p.elements), map-flat (words n) (λ t. items t.rows) (kept p.elements))

-- list 8 is one, of the entries of each table's maps
owned-entries : (os : List Owned) → flat (λ m. map map_entry_words m.entries) (flat (λ o. maps_in o.table.rows) os) ≡ flat (λ o. map map_entry_words (entries_in o.table.rows)) os
owned-entries os = flat-flat (λ m. map map_entry_words m.entries) (λ o. maps_in o.table.rows) os ∙ simp (map-flat map_entry_words (λ (m : Mapped). m.entries))

-- each list as the words of its entries, one entry after another; in lists 4, 7 and 12 the words go by what was before
abbrev pub itemized : List Provider → List (List Entry)
itemized ps =
    map provider_words (flat (λ p. p ∷ []) ps)
    ∷ map descriptor_words (flat (λ p. p.descriptors) ps)
    ∷ map unknown2_words (flat (λ p. p.unknown2) ps)
    ∷ table_entries none (owned_tables 0 ps)
    ∷ owned_words (λ n. definition_words) definitions_in 0 ps
    ∷ owned_words (λ n. event_words) events_in 0 ps
    ∷ map_list 0 (flat (of_tables maps_in) ps)
    ∷ owned_words (λ n. map_entry_words) entries_in 0 ps
    ∷ owned_words template_words templates_in 0 ps
    ∷ owned_unknowns 0 ps
    ∷ item_list 0 (flat (of_tables templates_in) ps)
    ∷ []

-- what the tables' entries have
pub all_inner : {B C : Type 0} (inner : B → List C) (items : Rows → List B) (ps : List Provider)
    → flat inner (flat (of_tables items) ps) ≡ flat (of_tables (λ r. flat inner (items r))) ps
all_inner inner items ps = simp (flat-flat inner (of_tables items), flat-flat inner (λ (t : Table). items t.rows))

pub lists-itemized : (ps : List Provider) → lists ps ≡ itemized ps
unfolding lists
lists-itemized ps =
    rw (
      flat-single ps,
      map-flat descriptor_words (λ p. p.descriptors) ps,
      map-flat unknown2_words (λ p. p.unknown2) ps,
      owned-entries (owned_tables 0 ps),
      owned-flat maps_in 0 ps,
      owned-flat templates_in 0 ps,
    )

-- What gives a provider's words and then those of the rest, with what is written behind it, gives the words that are stored.
parts-by : (l : ℕ) (words : ℕ → List ℕ → List Provider → List ℕ) → ((n : ℕ) (b : List ℕ) → words n b [] ≡ [])
    → ((n : ℕ) (b : List ℕ) (p : Provider) (ps : List Provider) → words n b (p ∷ ps) ≡ part l n b p ++ words (suc n) (passed l b p) ps)
    → (n : ℕ) (b : List ℕ) (ps : List Provider) → words n b ps ≡ parts l n b ps
unfolding parts
parts-by l words none more n b [] = none n b
parts-by l words none more n b (p ∷ ps) = more n b p ps ∙ ap (λ (r : List ℕ). part l n b p ++ r) (parts-by l words none more (suc n) (passed l b p) ps)

-- words that do not go by what was before
plain-parts : {B : Type 0} (l : ℕ) (words : B → List ℕ) (items : Provider → List B) → ((n : ℕ) (b : List ℕ) (p : Provider) → flat words (items p) ≡ part l n b p)
    → (n : ℕ) (b : List ℕ) (ps : List Provider) → flat (λ e. e) (map words (flat items ps)) ≡ parts l n b ps
unfolding flat
plain-parts l words items h n b ps =
    flat_map (λ e. e) words (flat items ps)
    ∙ parts-by l (λ n b ps. flat words (flat items ps)) (λ n b. refl) (λ n b p ps. flat_append words (items p) (flat items ps) ∙ rw (h n b p)) n b ps

-- words that go by their provider's number alone
module _ {B : Type 0} (l : ℕ) (words : ℕ → B → Entry) (items : Rows → List B)
    (has : (n : ℕ) (b : List ℕ) (t : Table) → flat (words n) (items t.rows) ≡ table_part l n b t)
    (all : (n : ℕ) (b : List ℕ) (p : Provider) → table_parts l n b (kept p.elements) ≡ part l n b p) where
  tables-of : (n : ℕ) (b : List ℕ) (ts : List Table) → flat (words n) (flat (λ t. items t.rows) ts) ≡ table_parts l n b ts
  unfolding flat table_parts
  tables-of n b [] = refl
  tables-of n b (t ∷ ts) = flat_append (words n) (items t.rows) _ ∙ rw (has n b t, tables-of n (behind l b t) ts)

  table-parts : (n : ℕ) (b : List ℕ) (ps : List Provider) → flat (λ e. e) (owned_words words items n ps) ≡ parts l n b ps
  unfolding flat owned_tables
  table-parts =
      parts-by l (λ n b ps. flat (λ e. e) (owned_words words items n ps)) (λ n b. refl)
      (λ n b p ps. ap (flat (λ e. e)) (owned_then words items n p ps) ∙ flat_append (λ e. e) (map (words n) (of_tables items p)) _
      ∙ rw (flat_map (λ e. e) (words n) (of_tables items p), tables-of n b (kept p.elements), all n b p))

-- list 4: a table's first entry goes by what is written
abbrev tables_from : List ℕ → List Owned → List ℕ
tables_from b os = flat (λ e. e) (table_entries b os)

tables_then : (n : ℕ) (b : List ℕ) (ts : List Table) (os : List Owned) → tables_from b (owned n ts ++ os) ≡ table_parts TABLES n b ts ++ tables_from (behind_all TABLES b ts) os
unfolding flat table_entries table_parts table_part behind_all
tables_then n b [] os = refl
tables_then n b (t ∷ ts) os = ap (λ (r : List ℕ). table_part TABLES n b t ++ r) (tables_then n (behind TABLES b t) ts os)

tables-parts : (n : ℕ) (b : List ℕ) (ps : List Provider) → tables_from b (owned_tables n ps) ≡ parts TABLES n b ps
unfolding flat owned_tables table_entries part
tables-parts = parts-by TABLES (λ n b ps. tables_from b (owned_tables n ps)) (λ n b. refl) (λ n b p ps. tables_then n b (kept p.elements) (owned_tables (suc n) ps))

-- so many more are so many more, where there is a number of them
more-here : (c : ℕ) (ns : List ℕ) (n : ℕ) → place c < length rows → length ns ≡ length rows → of c (more c n ns) ≡ of c ns + n
more-here c ns n p h = get_or-set_same ns (place c) _ 0 (omega arith)

-- a list whose words go by how many entries another list has before them
module _ {B : Type 0} (l c : ℕ) (items : Rows → List B) (from : ℕ → List B → List Entry) (count : List B → ℕ)
    (known : place c < length rows)
    (empty : (n : ℕ) → from n [] ≡ [])
    (append : (n : ℕ) (xs ys : List B) → from n (xs ++ ys) ≡ from n xs ++ from (n + count xs) ys)
    (has : (n : ℕ) (b : List ℕ) (t : Table) → flat (λ e. e) (from (of c b) (items t.rows)) ≡ table_part l n b t)
    (counts : (b : List ℕ) (t : Table) → more c (count (items t.rows)) b ≡ behind l b t)
    (all : (n : ℕ) (b : List ℕ) (p : Provider) → table_parts l n b (kept p.elements) ≡ part l n b p) where
  abbrev words_from : ℕ → List B → List ℕ
  words_from n xs = flat (λ e. e) (from n xs)

  running_then : (n : ℕ) (b : List ℕ) (ts : List Table) (xs : List B) → length b ≡ length rows
      → words_from (of c b) (flat (λ t. items t.rows) ts ++ xs) ≡ table_parts l n b ts ++ words_from (of c (behind_all l b ts)) xs
  unfolding flat table_parts behind_all
  running_then n b [] xs h = refl
  running_then n b (t ∷ ts) xs h =
      let rest = flat (λ (u : Table). items u.rows) ts in
      let k = of c b in
      ap (words_from k) (append_assoc (items t.rows) rest xs)
      ∙ ap (flat (λ e. e)) (append k (items t.rows) (rest ++ xs))
      ∙ flat_append (λ e. e) (from k (items t.rows)) _
      ∙ ap₂ (λ (w : List ℕ) m. w ++ words_from m (rest ++ xs)) (has n b t) (sym (more-here c b (count (items t.rows)) known h) ∙ ap (of c) (counts b t))
      ∙ ap (λ (r : List ℕ). table_part l n b t ++ r) (running_then n (behind l b t) ts xs (ap length (sym (counts b t)) ∙ length-set b _ _ ∙ h))
      ∙ sym (append_assoc (table_part l n b t) _ _)

  running_parts : (n : ℕ) (b : List ℕ) (ps : List Provider) → length b ≡ length rows → words_from (of c b) (flat (of_tables items) ps) ≡ parts l n b ps
  unfolding flat parts
  running_parts n b [] h = ap (flat (λ e. e)) (empty (of c b))
  running_parts n b (p ∷ ps) h =
      running_then n b (kept p.elements) (flat (of_tables items) ps) h
      ∙ ap₂ (λ (w r : List ℕ). w ++ r) (all n b p) (running_parts (suc n) (passed l b p) ps (behind_all-length l b (kept p.elements) ∙ h))

-- list 7: a map's first entry goes by the entries of the maps before it
map_list_append : (n : ℕ) (ms ns : List Mapped) → map_list n (ms ++ ns) ≡ map_list n ms ++ map_list (n + entry_count ms) ns
unfolding map_list total
map_list_append n [] ns = simp add-zero
map_list_append n (m ∷ ms) ns = rw (map_list_append (n + length m.entries) ms ns, add_assoc)

maps-parts : (ps : List Provider) → flat (λ e. e) (map_list 0 (flat (of_tables maps_in) ps)) ≡ parts MAPS 0 none ps
unfolding map_list table_part part
maps-parts ps =
    running_parts MAPS ENTRIES maps_in map_list entry_count (omega arith) (λ n. refl) map_list_append (λ n b t. refl) (λ b t. refl) (λ n b p. refl) 0 none ps refl

-- list 12: an item has its template's number
item_list-append : (n : ℕ) (ts us : List Template) → item_list n (ts ++ us) ≡ item_list n ts ++ item_list (n + length ts) us
unfolding item_list
item_list-append n [] us = simp add-zero
item_list-append n (t ∷ ts) us =
    let e : suc n + length ts ≡ n + suc (length ts) = omega arith in
    rw (item_list-append (suc n) ts us, e) (sym (append_assoc (map (item_words n) t.items) _ _))

items-parts : (ps : List Provider) → flat (λ e. e) (item_list 0 (flat (of_tables templates_in) ps)) ≡ parts ITEMS 0 none ps
unfolding item_list table_part part
items-parts ps =
    running_parts ITEMS TEMPLATES templates_in item_list (λ ts. length ts) (omega arith) (λ n. refl) item_list-append (λ n b t. refl) (λ b t. refl) (λ n b p. refl) 0 none ps refl

-- list 10: an unknown element has its provider's number
unknown-parts : (n : ℕ) (b : List ℕ) (ps : List Provider) → flat (λ e. e) (owned_unknowns n ps) ≡ parts UNKNOWN n b ps
unfolding flat owned_unknowns part
unknown-parts =
    parts-by UNKNOWN (λ n b ps. flat (λ e. e) (owned_unknowns n ps)) (λ n b. refl)
    (λ n b p ps. flat_append (λ e. e) (map (unknown_words n) (unknowns p.elements)) _ ∙ rw (flat_map (λ e. e) (unknown_words n) (unknowns p.elements)))

-- what holds of the first n numbers holds of each of them
abbrev pub First : (ℕ → Type 0) → ℕ → Type 0
First P zero = Unit {0}
First P (suc n) = P 0 × First (λ i. P (suc i)) n

pub first : (P : ℕ → Type 0) (n : ℕ) → First P n → (i : ℕ) → i < n → P i
first P zero h i g = absurd (omega arith)
first P (suc n) h zero g = h.0
first P (suc n) h (suc i) g = first (λ j. P (suc j)) n h.1 i (omega arith)

-- the number of the list of a row
abbrev pub number : ℕ → ℕ
number i = get_or (map (λ r. r.number) rows) i 0

pub listed : (ps : List Provider) (i : ℕ) → i < length rows → flat (λ e. e) (get_or (lists ps) i []) ≡ parts (number i) 0 none ps
unfolding flat part table_part
listed ps =
    rw (lists-itemized ps) (first (λ i. flat (λ e. e) (get_or (itemized ps) i []) ≡ parts (number i) 0 none ps) (length rows) (
      plain-parts PROVIDERS provider_words (λ p. p ∷ []) (λ n b p. refl) 0 none ps,
      (
        plain-parts DESCRIPTORS descriptor_words (λ p. p.descriptors) (λ n b p. refl) 0 none ps,
        (
          plain-parts UNKNOWN2 unknown2_words (λ p. p.unknown2) (λ n b p. refl) 0 none ps,
          (
            tables-parts 0 none ps,
            (
              table-parts DEFINITIONS (λ n. definition_words) definitions_in (λ n b t. refl) (λ n b p. refl) 0 none ps,
              (
                table-parts EVENTS (λ n. event_words) events_in (λ n b t. refl) (λ n b p. refl) 0 none ps,
                (
                  maps-parts ps,
                  (
                    table-parts ENTRIES (λ n. map_entry_words) entries_in (λ n b t. flat-flat map_entry_words (λ m. m.entries) (maps_in t.rows)) (λ n b p. refl) 0 none ps,
                    (
                      table-parts TEMPLATES template_words templates_in (λ n b t. refl) (λ n b p. refl) 0 none ps,
                      (unknown-parts 0 none ps, (items-parts ps, tt)),
                    ),
                  ),
                ),
              ),
            ),
          ),
        ),
      ),
    ))
