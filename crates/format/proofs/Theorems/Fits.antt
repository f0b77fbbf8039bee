-- What is written in each list behind all providers: so where each list has at most 65,536 entries, every number on the way is at most
-- that, and the words stored are those of the list.
use Prim.{tt}
use Rattle.std.specs.Prelude.{ℕ, zero, suc, ◌+◌, ◌*◌, ◌≤◌, ◌<◌, ◌≡◌, refl, Bool, true, false, List, [], ◌∷◌, ◌++◌, map, eqb, length, get_or, set, drop}
use Rattle.std.proofs.Common.{ap, sym, ◌∙◌, zero-add, mul-zero, mul-suc, add_assoc, arith, eqb-true, length-append, length-set, get_or-set_same, set-set}
use Rattle.blob.specs.Places.{Each}
use Rattle.blob.specs.Laid.{flat, flat-flat}
use Rattle.format.specs.Area.{TABLES, DEFINITIONS, EVENTS, MAPS, ENTRIES, TEMPLATES, UNKNOWN, ITEMS, Row, rows, place, width, none, more as so-many-more}
use Rattle.format.specs.Template.{Template}
use Rattle.format.specs.Map.{Mapped}
use Rattle.format.specs.Provider.{Rows, Table, Provider}
use Rattle.format.specs.Lists.{Entry, provider_words, descriptor_words, unknown2_words, definition_words, event_words, map_entry_words, template_words, item_words, unknown_words, kept, unknowns, Owned, owned_tables, owned_unknowns, after, table_entries, definitions_in, events_in, maps_in, templates_in, map_list, item_list, lists}
use Rattle.format.specs.Answer.{counted, capped}
use Rattle.format.specs.Steps.Needs.{total, after_all, of_tables, entries_in, has, needs_all}
use Rattle.format.specs.Steps.Parts.{Few, Counted, behind, behind_all, parts, passed_all}
use Rattle.format.proofs.Theorems.Grows.{set_same, behind_all-same, behind_all-length, passed_all-tables}
use Rattle.format.proofs.Theorems.Listed.{owned_words, owned_then, itemized, lists-itemized, first, number, listed}
use Rattle.format.proofs.Theorems.Needed.{total-length, after-all, counted_has, needed}

-- entries of so many words each
pub data Wide (k : ℕ) : List Entry → Type 0 where
  empty : Wide k []
  more : {e : Entry} {es : List Entry} → length e ≡ k → Wide k es → Wide k (e ∷ es)

pub wide_length : {k : ℕ} {es : List Entry} → Wide k es → length (flat (λ e. e) es) ≡ k * length es
unfolding flat
wide_length {k} empty = sym (mul-zero k)
wide_length (more h g) = simp (length-append, h, wide_length g, mul-suc) (omega arith)

wide_append : {k : ℕ} {es fs : List Entry} → Wide k es → Wide k fs → Wide k (es ++ fs)
wide_append empty h = h
wide_append (more e g) h = more e (wide_append g h)

wide_map : {B : Type 0} (k : ℕ) (words : B → Entry) → ((b : B) → length (words b) ≡ k) → (xs : List B) → Wide k (map words xs)
wide_map k words h [] = empty
wide_map k words h (x ∷ xs) = more (h x) (wide_map k words h xs)

wide_owned : {B : Type 0} (k : ℕ) (words : ℕ → B → Entry) (items : Rows → List B) → ((n : ℕ) (b : B) → length (words n b) ≡ k)
    → (n : ℕ) (ps : List Provider) → Wide k (owned_words words items n ps)
unfolding flat owned_tables
wide_owned k words items h n [] = empty
wide_owned k words items h n (p ∷ ps) = rw (owned_then words items n p ps) (wide_append (wide_map k (words n) (h n) (of_tables items p)) (wide_owned k words items h (suc n) ps))

wide_tables : (w : List ℕ) (os : List Owned) → Wide (width TABLES) (table_entries w os)
unfolding table_entries
wide_tables w [] = empty
wide_tables w (o ∷ os) = more refl (wide_tables (after w o.table.rows) os)

wide_maps : (n : ℕ) (ms : List Mapped) → Wide (width MAPS) (map_list n ms)
unfolding map_list
wide_maps n [] = empty
wide_maps n (m ∷ ms) = more refl (wide_maps (n + length m.entries) ms)

wide_items : (n : ℕ) (ts : List Template) → Wide (width ITEMS) (item_list n ts)
unfolding item_list
wide_items n [] = empty
wide_items n (t ∷ ts) = wide_append (wide_map _ (item_words n) (λ i. refl) t.items) (wide_items (suc n) ts)

wide_unknowns : (n : ℕ) (ps : List Provider) → Wide (width UNKNOWN) (owned_unknowns n ps)
unfolding owned_unknowns
wide_unknowns n [] = empty
wide_unknowns n (p ∷ ps) = wide_append (wide_map _ (unknown_words n) (λ u. refl) (unknowns p.elements)) (wide_unknowns (suc n) ps)

-- the words of an entry, by its list's row
abbrev pub words : ℕ → ℕ
words i = get_or (map (λ r. r.words) rows) i 0

pub lists-wide : (ps : List Provider) (i : ℕ) → i < length rows → Wide (words i) (get_or (lists ps) i [])
lists-wide ps =
    rw (lists-itemized ps) (first (λ i. Wide (words i) (get_or (itemized ps) i [])) (length rows) (
      wide_map _ provider_words (λ p. refl) (flat (λ p. p ∷ []) ps),
      (
        wide_map _ descriptor_words (λ d. refl) (flat (λ p. p.descriptors) ps),
        (
          wide_map _ unknown2_words (λ w. refl) (flat (λ p. p.unknown2) ps),
          (
            wide_tables none (owned_tables 0 ps),
            (
              wide_owned _ (λ n. definition_words) definitions_in (λ n d. refl) 0 ps,
              (
                wide_owned _ (λ n. event_words) events_in (λ n e. refl) 0 ps,
                (
                  wide_maps 0 (flat (of_tables maps_in) ps),
                  (
                    wide_owned _ (λ n. map_entry_words) entries_in (λ n e. refl) 0 ps,
                    (
                      wide_owned _ template_words templates_in (λ n t. refl) 0 ps,
                      (wide_unknowns 0 ps, (wide_items 0 (flat (of_tables templates_in) ps), tt)),
                    ),
                  ),
                ),
              ),
            ),
          ),
        ),
      ),
    ))

pub parts-wide : (ps : List Provider) (i : ℕ) → i < length rows → length (parts (number i) 0 none ps) ≡ words i * length (get_or (lists ps) i [])
parts-wide ps i h = ap length (sym (listed ps i h)) ∙ wide_length (lists-wide ps i h)

-- needs that are few are what is needed
pub few-uncapped : (ns : List ℕ) → Few (map capped ns) → map capped ns ≡ ns
few-uncapped [] h = refl
few-uncapped (n ∷ ns) h =
    let k = h 0 in
    let e : capped n ≡ n = omega arith in
    rw (e, few-uncapped ns (λ i. h (suc i)))

pub few-needed : (ps : List Provider) → Few (needs_all none ps) → needs_all none ps ≡ counted (lists ps)
few-needed ps h = needed ps ∙ few-uncapped (counted (lists ps)) (rw (needed ps) at h)

-- Behind all providers' tables no number is over that of its list.
abbrev pub tables : List Provider → List Table
tables ps = flat (λ p. kept p.elements) ps

of-all : {B : Type 0} (items : Rows → List B) (ps : List Provider) → flat (λ t. items t.rows) (tables ps) ≡ flat (of_tables items) ps
of-all items ps = flat-flat (λ t. items t.rows) (λ p. kept p.elements) ps

-- list 4 counts the tables' entries
tables-behind : (before : List ℕ) (ts : List Table) → behind_all TABLES before ts ≡ after_all before ts
unfolding behind_all after_all
tables-behind before [] = refl
tables-behind before (t ∷ ts) = tables-behind (after before t.rows) ts

-- where a list counts with each table so many entries of another, these are counted behind all
counted-behind : (l c : ℕ) (count : Table → ℕ) → ((b : List ℕ) (t : Table) → behind l b t ≡ so-many-more c (count t) b)
    → (b : List ℕ) (ts : List Table) → place c < length b → behind_all l b ts ≡ so-many-more c (total count ts) b
unfolding behind_all total
counted-behind l c count h b [] g = sym (set_same b (place c))
counted-behind l c count h b (t ∷ ts) g =
    let i = place c in
    let n = get_or b i 0 + count t in
    ap (λ (x : List ℕ). behind_all l x ts) (h b t)
    ∙ counted-behind l c count h (set b i n) ts (rw length-set g)
    ∙ ap (λ m. set (set b i n) i (m + total count ts)) (get_or-set_same b i n 0 g)
    ∙ set-set b i n _
    ∙ ap (set b i) (add_assoc (get_or b i 0) (count t) (total count ts))

abbrev pub ends : List Provider → List ℕ
ends ps =
    0 ∷ 0 ∷ 0 ∷ 0 ∷ length (flat (of_tables definitions_in) ps) ∷ length (flat (of_tables events_in) ps) ∷ length (flat (of_tables maps_in) ps) ∷ 0 ∷ length (flat (of_tables templates_in) ps) ∷ drop 9 none

pub tables_end : (ps : List Provider) → behind_all TABLES none (tables ps) ≡ ends ps
tables_end ps = tables-behind none (tables ps) ∙ after-all 0 0 0 0 0 (drop 9 none) (tables ps) 0 0 0 0 ∙ simp (zero-add, of-all definitions_in, of-all events_in, of-all maps_in, of-all templates_in)

each-few : (ns : List ℕ) → Each (λ n. n ≤ 65536) ns → Few ns
each-few [] e i = omega arith
each-few (n ∷ ns) e zero = e.0
each-few (n ∷ ns) e (suc i) = each-few ns e.1 i

none_each : (rs : List Row) → Each (λ n. n ≤ 65536) (map (λ r. 0) rs)
none_each [] = tt
none_each (r ∷ rs) = (omega arith, none_each rs)

none-at : (rs : List Row) (i : ℕ) → get_or {A = ℕ} (map (λ r. 0) rs) i 0 ≡ 0
none-at [] i = refl
none-at (r ∷ rs) zero = refl
none-at (r ∷ rs) (suc i) = none-at rs i

none-few_all : (rs : List Row) → Few (map (λ r. 0) rs)
none-few_all [] i = omega arith
none-few_all (r ∷ rs) zero = omega arith
none-few_all (r ∷ rs) (suc i) = none-few_all rs i

few-set : (ns : List ℕ) (i n : ℕ) → Few ns → n ≤ 65536 → Few (set ns i n)
few-set [] i n f h j = omega arith
few-set (m ∷ ns) zero n f h zero = h
few-set (m ∷ ns) zero n f h (suc j) = f (suc j)
few-set (m ∷ ns) (suc i) n f h zero = f 0
few-set (m ∷ ns) (suc i) n f h (suc j) = few-set ns i n (λ j. f (suc j)) h j

module _ (ps : List Provider) (f : Few (counted (lists ps))) where
  -- what a list has of the providers, by its row
  few-of : (i : ℕ) {B : Type 0} (items : Provider → List B) → get_or (map (λ g. total g ps) has) i 0 ≡ total (λ p. length (items p)) ps → length (flat items ps) ≤ 65536
  few-of i items e = omega (arith, ap (λ (ns : List ℕ). get_or ns i 0) (counted_has ps), f i, e, total-length items ps)

  -- list 7 counts the entries of maps, list 12 the templates
  few-counted : (l c : ℕ) {B : Type 0} (items : Rows → List B) → ((b : List ℕ) (t : Table) → behind l b t ≡ so-many-more c (length (items t.rows)) b) → place c < length rows
      → get_or (map (λ g. total g ps) has) (place c) 0 ≡ total (λ p. length (of_tables items p)) ps → Few (behind_all l none (tables ps))
  few-counted l c items h g e =
      rw (counted-behind l c (λ t. length (items t.rows)) h none (tables ps) g)
      (few-set none (place c) _ (none-few_all rows)
      (omega (arith, few-of (place c) (of_tables items) e, ap (λ xs. length xs) (of-all items ps), total-length (λ (t : Table). items t.rows) (tables ps), none-at rows (place c))))

  few-behind : (l : ℕ) → Few (behind_all l none (tables ps))
  few-behind l = go (eqb l TABLES) (eqb l MAPS) (eqb l ITEMS) refl refl refl
    where
      none-few : 0 ≤ 65536
      none-few = omega arith

      go : (t m i : Bool) → eqb l TABLES ≡ t → eqb l MAPS ≡ m → eqb l ITEMS ≡ i → Few (behind_all l none (tables ps))
      go true m i e g h =
          rw (eqb-true l TABLES e, tables_end ps)
          (each-few (0 ∷ 0 ∷ 0 ∷ 0 ∷ length (flat (of_tables definitions_in) ps) ∷ length (flat (of_tables events_in) ps) ∷ length (flat (of_tables maps_in) ps) ∷ 0 ∷ length (flat (of_tables templates_in) ps) ∷ drop 9 none) (
            none-few,
            (
              none-few,
              (
                none-few,
                (
                  none-few,
                  (
                    few-of (place DEFINITIONS) (of_tables definitions_in) refl,
                    (
                      few-of (place EVENTS) (of_tables events_in) refl,
                      (
                        few-of (place MAPS) (of_tables maps_in) refl,
                        (
                          none-few,
                          (few-of (place TEMPLATES) (of_tables templates_in) refl, none_each (drop 9 rows)),
                        ),
                      ),
                    ),
                  ),
                ),
              ),
            ),
          ))
      go false true i e g h =
          rw (eqb-true l MAPS g)
          (few-counted MAPS ENTRIES entries_in (λ b t. ap (λ n. so-many-more ENTRIES n b) (total-length (λ m. m.entries) (maps_in t.rows))) (omega arith) refl)
      go false false true e g h = rw (eqb-true l ITEMS h) (few-counted ITEMS TEMPLATES templates_in (λ b t. refl) (omega arith) refl)
      go false false false e g h = rw (behind_all-same l (λ b t. rw (e, g, h)) none (tables ps)) (none-few_all rows)

  -- what is written in each list behind all providers
  pub list-few : (i : ℕ) → i < length rows → Counted (passed_all (number i) none ps)
  list-few i h = rw (passed_all-tables (number i) none ps) (few-behind (number i), behind_all-length (number i) none (tables ps))
