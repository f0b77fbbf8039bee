-- A reading's own lists always join: the lookups' tests find no fault in them, and the lookup by key gives the join of what was read.
use Prim.{tt}
use Rattle.std.specs.Prelude.{ℕ, zero, suc, ◌+◌, ◌/◌, ◌≤◌, ◌<◌, ◌≡◌, Bool, get_or, take, drop, leb, eqb, Ok, Err, None}
use Rattle.std.proofs.Math.Path.{refl, ap, ap₂, sym, subst}
use Rattle.std.proofs.Common.{◌∙◌, zero-add, suc-add, add-one, arith, length-set, length-append, get_or-set_same, get_or-drop, ne_eqb, lt-ltb, le-leb}
use Rattle.std.proofs.Math.Bool.{true, false}
use mathlib.Core.List.{List, [], ◌∷◌, ◌++◌, map, map-append, append_assoc}
use Rattle.std.proofs.Math.ListN.{length, length-map}
use Rattle.blob.specs.Reading.{Outcome, done, refused, choose}
use Rattle.blob.proofs.Laws.{choose-done}
use Rattle.blob.specs.Laid.{flat, flat_map}
use Rattle.format.specs.Area.{PROVIDERS, TABLES, EVENTS, TEMPLATES, GUIDS, Row, rows, place, none, of}
use Rattle.format.specs.Entry.{GUID, EVENT_TEMPLATE, TEMPLATE_PROVIDER, TEMPLATE_OFFSET, TEMPLATE_GUID}
use Rattle.format.specs.Table.{EVNT, TTBL}
use Rattle.format.specs.Provider.{Rows, definitions, events, maps, templates, Table, Provider}
use Rattle.format.specs.Crim.{Crim, crim}
use Rattle.format.specs.Lists.{Entry, kept, Owned, owned_tables, list_of, row_count, after, table_entries, guid_words, provider_words, event_words, template_words, templates_in, lists}
use Rattle.format.specs.Answer.{own, too_small, lent_enough, with_room, reading, counted, answer, held, Allowed}
use Rattle.format.specs.Lookup.{entries_of, word_of, counts_fit, select, position, positions, numbered, matches, by_offset, alike, once, every, tables_fit, tables_own, owned_by, keyed, guid_at_offset, guids_of, by_key}
use Rattle.format.specs.Join.{those, the_first, events_of, templates_of, asked, guids_from, join}
use Rattle.format.specs.Steps.Needs.{of_tables}
use Rattle.format.specs.Steps.Parts.{behind_all}
use Rattle.format.proofs.Theorems.Grows.{behind_all-grows}
use Rattle.format.proofs.Theorems.Listed.{owned, owned_words, owned_then, itemized, lists-itemized, First}
use Rattle.format.proofs.Theorems.Needed.{map_list_length, owned_words_length}
use Rattle.format.proofs.Theorems.Fits.{tables, ends, tables_end}
use Rattle.format.proofs.Theorems.Known.{All, all_append, all-part, Known, Sound, owned-known, known}
use Rattle.format.proofs.Theorems.Codes.{refused-code}
use Rattle.format.proofs.Theorems.Taken.{read, filled-length, taken}
use Rattle.format.proofs.Theorems.Ranges.{event_items, template_items, events-range, templates-range, tables-own}
use Rattle.format.specs.declared.Answer.{Answer}
use Rattle.format.specs.declared.Key.{Key}
use Rattle.format.specs.Template.{Template}

-- lists that have room have no count over its capacity
room-counts : {A : Type 0} (a b : A) (rs : List Row) (cs : List ℕ) (ls : List (List Entry)) → with_room rs cs ls a ≡ done b → length cs ≡ length rs → length ls ≡ length rs
    → counts_fit (counted ls) cs ≡ true
unfolding with_room counts_fit
room-counts a b [] [] [] e n m = refl
room-counts a b [] [] (l ∷ ls) e n m = absurd (omega arith)
room-counts a b [] (c ∷ cs) ls e n m = absurd (omega arith)
room-counts a b (r ∷ rs) [] ls e n m = absurd (omega arith)
room-counts a b (r ∷ rs) (c ∷ cs) [] e n m = absurd (omega arith)
room-counts a b (r ∷ rs) (c ∷ cs) (l ∷ ls) e n m =
    let d = choose-done (leb (length l) c) (with_room rs cs ls a) _ b e in
    rw d.0 (room-counts a b rs cs ls d.1 (omega arith) (omega arith))

-- each table's list is that of a row
list-row : (r : Rows) → place (list_of r) < length rows
list-row (definitions ds) = omega arith
list-row (events es) = omega arith
list-row (maps ms) = omega arith
list-row (templates ts) = omega arith

-- a table's range, from what was written before, ends in what is written with it, and so in its list
tables-fit : (counts before : List ℕ) (os : List Owned) → length before ≡ length rows
    → ((i : ℕ) → i < length rows → get_or (behind_all TABLES before (map (λ o. o.table) os)) i 0 ≤ get_or counts i 0)
    → All (Sound (of PROVIDERS counts)) os → tables_fit counts (table_entries before os) ≡ true
unfolding every table_entries behind_all
tables-fit counts before [] n h k = refl
tables-fit counts before (o ∷ os) n h k =
    let r = o.table.rows in
    let l = place (list_of r) in
    let s = get_or-set_same before l (of (list_of r) before + row_count r) 0 (omega (arith, list-row r)) in
    let g = behind_all-grows TABLES (after before r) (map (λ (o : Owned). o.table) os) l in
    let q : of (list_of r) before + row_count r ≤ of (list_of r) counts = omega (arith, h l (list-row r)) in
    rw (← k.0.1.list, lt-ltb _ _ k.0.0, le-leb _ _ k.0.1.low, le-leb _ _ k.0.1.high, le-leb _ _ q)
    (tables-fit counts (after before r) os (length-set before l _ ∙ n) h k.1)

-- the tables with their providers' numbers
owned-tables : (n : ℕ) (ps : List Provider) → map (λ o. o.table) (owned_tables n ps) ≡ tables ps
unfolding owned_tables flat
owned-tables n [] = refl
owned-tables n (p ∷ ps) = map-append (λ o. o.table) (owned n (kept p.elements)) (owned_tables (suc n) ps) ∙ ap₂ (λ (a b : List Table). a ++ b) (same_tables (kept p.elements)) (owned-tables (suc n) ps)
  where
    same_tables : (ts : List Table) → map (λ o. o.table) (owned n ts) ≡ ts
    same_tables [] = refl
    same_tables (t ∷ ts) = ap (λ (l : List Table). t ∷ l) (same_tables ts)

-- what holds of the first n numbers, and of all behind them
first_then : (P : ℕ → Type 0) (n : ℕ) → First P n → ((j : ℕ) → P (n + j)) → (i : ℕ) → P i
first_then P zero h g i = subst P (zero-add i) (g i)
first_then P (suc n) h g zero = h.0
first_then P (suc n) h g (suc i) = first_then (λ i. P (suc i)) n h.1 (λ j. subst P (suc-add n j) (g j)) i

none-at : (rs : List Row) (i : ℕ) → get_or (map (λ (r : Row). zero) rs) i 0 ≡ zero
none-at [] i = refl
none-at (r ∷ rs) zero = refl
none-at (r ∷ rs) (suc i) = none-at rs i

-- no list has fewer entries than its tables
tables-most : (ps : List Provider) (i : ℕ) → i < length rows → get_or (behind_all TABLES none (tables ps)) i 0 ≤ get_or (counted (lists ps)) i 0
tables-most ps i h =
    rw (tables_end ps, lists-itemized ps) (first_then (λ i. get_or (ends ps) i 0 ≤ get_or (counted (itemized ps)) i 0) 9 (
      omega arith,
      (omega arith, (omega arith, (omega arith, (rw owned_words_length (omega arith), (rw owned_words_length (omega arith), (rw map_list_length (omega arith), (omega arith, (rw owned_words_length (omega arith), tt)))))))),
    ) (λ j. omega (arith, none-at (drop 9 rows) j, get_or-drop 9 (ends ps) j 0)) i)

-- Of entries that are the words of some values, those that a test picks are the words of the values that it picks.
module _ {A : Type 0} (words : A → Entry) (p : Entry → Bool) where
  select-words : (vs : List A) → select p (map words vs) ≡ map words (those (λ a. p (words a)) vs)
  unfolding select those
  select-words [] = refl
  select-words (a ∷ vs) = go (p (words a)) (select-words vs)
    where
      go : (t : Bool) → select p (map words vs) ≡ map words (those (λ a. p (words a)) vs)
          → choose t (words a ∷ select p (map words vs)) (select p (map words vs)) ≡ map words (choose t (a ∷ those (λ a. p (words a)) vs) (those (λ a. p (words a)) vs))
      go true ih = ap (λ (es : List Entry). words a ∷ es) ih
      go false ih = ih

  -- the first of them, and something of it
  first_words : {B : Type 0} (f : Entry → B) (vs : List A) → map f (take 1 (select p (map words vs))) ≡ map (λ a. f (words a)) (the_first (λ a. p (words a)) vs)
  first_words {B} f vs = ap (λ (es : List Entry). map f (take 1 es)) (select-words vs) ∙ go (those (λ a. p (words a)) vs)
    where
      go : (xs : List A) → map f (take 1 (map words xs)) ≡ map (λ a. f (words a)) (take 1 xs)
      go [] = refl
      go (x ∷ xs) = refl

  -- and their numbers among all of them
  words-positions : {B : Type 0} (F : ℕ → List B) (G : A → List B) (all : List A) → ((qs : List A) (x : A) (rs : List A) → all ≡ qs ++ x ∷ rs → F (length qs) ≡ G x)
      → (qs rs : List A) → all ≡ qs ++ rs → flat F (positions p (length qs) (map words rs)) ≡ flat G (those (λ a. p (words a)) rs)
  unfolding positions those flat
  words-positions F G all h qs [] e = refl
  words-positions {B} F G all h qs (x ∷ rs) e =
      go (p (words x)) (rw (length-append qs (x ∷ []), add-one) at (words-positions F G all h (qs ++ x ∷ []) rs (e ∙ sym (append_assoc qs (x ∷ []) rs))))
    where
      go : (t : Bool) → flat F (positions p (suc (length qs)) (map words rs)) ≡ flat G (those (λ a. p (words a)) rs)
          → flat F (choose t (length qs ∷ positions p (suc (length qs)) (map words rs)) (positions p (suc (length qs)) (map words rs)))
          ≡ flat G (choose t (x ∷ those (λ a. p (words a)) rs) (those (λ a. p (words a)) rs))
      go true ih = ap₂ (λ (a b : List B). a ++ b) (h qs x rs e) ih
      go false ih = ih

-- the lists that the lookup by key goes by, and what it finds of a provider
abbrev pub table_list : List Provider → List Entry
table_list ps = table_entries none (owned_tables 0 ps)

abbrev event_list : List Provider → List Entry
event_list ps = flat (λ o. event_items o.provider o.table.rows) (owned_tables 0 ps)

abbrev pub template_list : List Provider → List Entry
template_list ps = flat (λ o. template_items o.provider o.table.rows) (owned_tables 0 ps)

module _ (key : Key) where
  abbrev found_of : List Provider → ℕ → List Entry
  found_of ps n = flat (λ e. guid_at_offset (owned_by (table_list ps) n TTBL (template_list ps)) (word_of EVENT_TEMPLATE e)) (select (keyed key) (owned_by (table_list ps) n EVNT (event_list ps)))

  guid-words : (n : ℕ) (ts : List Template) (offset : ℕ) → guid_at_offset (map (template_words n) ts) offset ≡ map (λ t. guid_words t.guid) (the_first (λ t. eqb t.offset offset) ts)
  guid-words n ts offset = first_words (template_words n) (λ t. eqb (word_of TEMPLATE_OFFSET t) offset) (λ t. take GUID (drop TEMPLATE_GUID t)) ts

  one-join : (qs : List Provider) (p : Provider) (rs : List Provider) → All (λ p. All Known (kept p.elements)) (qs ++ p ∷ rs) → found_of (qs ++ p ∷ rs) (length qs) ≡ guids_from key p
  one-join qs p rs a =
      rw (templates-range qs p rs a, events-range qs p rs a, select-words event_words (keyed key) (events_of p))
      (flat_map (λ e. guid_at_offset (map (template_words (length qs)) (templates_of p)) (word_of EVENT_TEMPLATE e)) event_words (those (asked key) (events_of p)) ∙ simp (guid-words (length qs) (templates_of p)))

  guids_join : (ps : List Provider) → All (λ p. All Known (kept p.elements)) ps
      → once [] (flat (found_of ps) (positions (λ p. alike (take GUID p) (guid_words key.guid)) 0 (map provider_words ps))) ≡ join ps key
  unfolding join
  guids_join ps a =
      ap (once [])
      (words-positions provider_words (λ p. alike (take GUID p) (guid_words key.guid)) (found_of ps) (guids_from key) ps
      (λ qs p rs e. subst (λ (ps : List Provider). All (λ p. All Known (kept p.elements)) ps → found_of ps (length qs) ≡ guids_from key p) (sym e) (one-join qs p rs) a)
      [] ps refl)

-- Each template's number is a provider's; so a number that is none's finds no template.
owners : (m n : ℕ) (ps : List Provider) → n + length ps ≤ m → All (λ e. word_of TEMPLATE_PROVIDER e < m) (owned_words template_words templates_in n ps)
unfolding flat owned_tables
owners m n [] h = tt
owners m n (p ∷ ps) h = rw (owned_then template_words templates_in n p ps) (all_append _ (map (template_words n) (of_tables templates_in p)) _ (mine (of_tables templates_in p)) (owners m (suc n) ps (omega arith)))
  where
    mine : (ts : List Template) → All (λ e. word_of TEMPLATE_PROVIDER e < m) (map (template_words n) ts)
    mine [] = tt
    mine (t ∷ ts) = (omega arith, mine ts)

none-matches : (m provider offset n : ℕ) (es : List Entry) → m ≤ provider → All (λ e. word_of TEMPLATE_PROVIDER e < m) es → position (matches provider offset) n es ≡ []
unfolding position
none-matches m provider offset n [] h a = refl
none-matches m provider offset n (e ∷ es) h a = rw (ne_eqb (word_of TEMPLATE_PROVIDER e) provider (λ q. omega (arith, a.0))) (none-matches m provider offset (suc n) es h a.1)

-- An accepted reading, with a capacity for each list: what it leaves in the lent words, and what it counts.
module _ (bytes words capacities : List ℕ) (c : Crim) (e : reading bytes words capacities ≡ done c) (n : length capacities ≡ length rows) where
  pub lent_still : lent_enough capacities (held words capacities (done c)) ≡ true
  unfolding held
  lent_still = rw (filled-length words 0 rows capacities (lists c.providers)) (read bytes words capacities c e).lent

  pub counts-room : counts_fit (counted (lists c.providers)) capacities ≡ true
  unfolding lists
  counts-room = room-counts c c rows capacities (lists c.providers) (read bytes words capacities c e).room n refl

  pub tables-join : tables_fit (counted (lists c.providers)) (entries_of (held words capacities (done c)) capacities (counted (lists c.providers)) TABLES) ≡ true
  unfolding lists
  tables-join =
      let ps = c.providers in
      let i : length ps ≤ length (map provider_words ps) = omega (arith, length-map ps provider_words) in
      rw (taken bytes words capacities c e n (place TABLES) (omega arith))
      (tables-fit (counted (lists ps)) none (owned_tables 0 ps) refl (rw (owned-tables 0 ps) (tables-most ps)) (owned-known 0 _ ps (omega arith) (known bytes c (read bytes words capacities c e).found)))

  pub tables-owned : (let ts = entries_of (held words capacities (done c)) capacities (counted (lists c.providers)) TEMPLATES in
      tables_own ts (entries_of (held words capacities (done c)) capacities (counted (lists c.providers)) TABLES) ≡ true)
  unfolding lists
  tables-owned =
      let ps = c.providers in
      rw (taken bytes words capacities c e n (place TABLES) (omega arith), taken bytes words capacities c e n (place TEMPLATES) (omega arith))
      (tables-own (length ps) none [] (owned_tables 0 ps) refl refl (owned-known 0 (length ps) ps (omega arith) (known bytes c (read bytes words capacities c e).found)))

  guids_here : (key : Key) → guids_of (held words capacities (done c)) capacities (counted (lists c.providers)) key ≡ join c.providers key
  unfolding guids_of lists
  guids_here key =
      let t = taken bytes words capacities c e n in
      rw (t (place TABLES) (omega arith), t (place TEMPLATES) (omega arith), t (place EVENTS) (omega arith), t (place PROVIDERS) (omega arith))
      (guids_join key c.providers (known bytes c (read bytes words capacities c e).found))

  -- by offset: never 8, and 10 only for a range past the list
  pub offset-joins : (provider first count offset : ℕ) → by_offset (held words capacities (done c)) capacities (counted (lists c.providers)) provider first count offset
      ≡ (let ts = get_or (lists c.providers) (place TEMPLATES) [] in
      choose (leb (first + count) (length ts))
      (numbered (position (matches provider offset) first (take count (drop first ts))))
      (Err (own 10)))
  unfolding by_offset lists
  offset-joins provider first count offset = rw (lent_still, counts-room, taken bytes words capacities c e n (place TEMPLATES) (omega arith))

  pub offset-nobodys : (provider first count offset : ℕ) → length c.providers ≤ provider → first + count ≤ length (get_or (lists c.providers) (place TEMPLATES) [])
      → by_offset (held words capacities (done c)) capacities (counted (lists c.providers)) provider first count offset ≡ Ok None
  unfolding lists
  offset-nobodys provider first count offset h g =
      let ps = c.providers in
      offset-joins provider first count offset
      ∙ rw (le-leb _ _ g, none-matches (length ps) provider offset first (take count (drop first (template_list ps))) h (all-part _ count first (template_list ps) (owners (length ps) 0 ps (omega arith))))

  -- by key: never 10, and else 8 only for the lent list itself; the GUIDs are those of the join of what was read
  pub key-joins : (key : Key) (lent : List ℕ) → by_key (held words capacities (done c)) capacities (counted (lists c.providers)) key lent
      ≡ (let capacity = length lent / GUID in
      let found = join c.providers key in
      choose (leb capacity 65536) (choose (leb (length found) capacity) (done found) (refused (too_small GUIDS capacity))) (refused (own 8)))
  unfolding by_key
  key-joins key lent = rw (lent_still, counts-room, tables-join, tables-owned, guids_here key)

-- The same in the terms of what `read` promises: where its answer is 0, the bytes are a block, and a lookup over the words that it leaves
-- and the numbers that it tells gives the join of what the block holds.
module _ (bytes words capacities : List ℕ) (a : Answer) (after : List ℕ) where
  abbrev Joined : Type 0
  Joined =
      (c : Crim)
      × (crim bytes ≡ done c)
      × ((key : Key) (lent : List ℕ) → by_key after capacities a.counts key lent
      ≡ (let capacity = length lent / GUID in
      let found = join c.providers key in
      choose (leb capacity 65536) (choose (leb (length found) capacity) (done found) (refused (too_small GUIDS capacity))) (refused (own 8))))

  pub accepted-joins : Allowed bytes words capacities a after → a.code ≡ 0 → length capacities ≡ length rows → Joined
  unfolding answer
  accepted-joins h z n = go (reading bytes words capacities) refl
    where
      go : (o : Outcome Crim) → reading bytes words capacities ≡ o → Joined
      go (done c) e = (c, (read bytes words capacities c e).found, λ key lent. rw (h.kept, h.answered, e) (key-joins bytes words capacities c e n key lent))
      go (refused r) e = absurd (let q : a.code ≡ r.code = rw (h.answered, e) refl in omega (arith, refused-code bytes words capacities r e))
