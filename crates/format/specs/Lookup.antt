-- Finding a template. "A lookup takes the lent words, capacities and counts of a reading. Order: 8 as above, 10 for a count over its
-- capacity or a fault named below, then 9." (finding a template)
use Rattle.std.specs.Prelude.{ℕ, zero, suc, ◌+◌, ◌/◌, ◌≡◌, Bool, true, false, not, ◌&&◌, ◌||◌, List, [], ◌∷◌, map, length, get_or, take, drop, leb, ltb, eqb, Ok, Err, Result, Some, None, Option}
use Rattle.blob.specs.declared.Refusal.{Refusal}
use Rattle.blob.specs.Reading.{Outcome, done, refused, choose, as_result}
use Rattle.blob.specs.Laid.{laid, flat}
use Rattle.format.specs.Area.{PROVIDERS, TABLES, EVENTS, TEMPLATES, GUIDS, rows, place, width, of}
use Rattle.format.specs.Entry.{TABLE_PROVIDER, TABLE_KIND, TABLE_FIRST, TABLE_COUNT, GUID, KEY, EVENT_TEMPLATE, TEMPLATE_PROVIDER, TEMPLATE_OFFSET, TEMPLATE_GUID}
use Rattle.format.specs.Table.{EVNT, TTBL, kind_list}
use Rattle.format.specs.Lists.{Entry, guid_words}
use Rattle.format.specs.Answer.{own, too_small, areas, lent_enough}
use Rattle.format.specs.declared.Key.{Key}

-- n entries of so many words each, from a place of the words on
unfoldable pub entries_from : ℕ → ℕ → ℕ → List ℕ → List Entry
entries_from width zero at words = []
entries_from width (suc n) at words = take width (drop at words) ∷ entries_from width n (at + width) words

-- the entries of a list, by its number: its area starts where those before it end
abbrev pub entries_of : List ℕ → List ℕ → List ℕ → ℕ → List Entry
entries_of words capacities counts l = entries_from (width l) (of l counts) (areas rows (take (place l) capacities)) words

-- a word of an entry
abbrev pub word_of : ℕ → Entry → ℕ
word_of i e = get_or e i 0

-- no count is over its capacity
unfoldable pub counts_fit : List ℕ → List ℕ → Bool
counts_fit [] cs = true
counts_fit (n ∷ ns) [] = false
counts_fit (n ∷ ns) (c ∷ cs) = leb n c && counts_fit ns cs

-- whether all entries pass a test
unfoldable pub every : (Entry → Bool) → List Entry → Bool
every p [] = true
every p (e ∷ es) = p e && every p es

-- the entries that a test picks, in their order
unfoldable pub select : (Entry → Bool) → List Entry → List Entry
select p [] = []
select p (e ∷ es) = choose (p e) (e ∷ select p es) (select p es)

-- the number of the first entry that a test picks, counted from n; none or one
unfoldable pub position : (Entry → Bool) → ℕ → List Entry → List ℕ
position p n [] = []
position p n (e ∷ es) = choose (p e) (n ∷ []) (position p (suc n) es)

-- the numbers of all that it picks
unfoldable pub positions : (Entry → Bool) → ℕ → List Entry → List ℕ
positions p n [] = []
positions p n (e ∷ es) = choose (p e) (n ∷ positions p (suc n) es) (positions p (suc n) es)

-- "By offset: given a first entry and a count, the number in list 9 of the lowest template entry in that range whose offset is equal,
-- or none exactly if none is. A range past the list is 10."; it takes "a provider number" too, and "A range entry with another provider
-- doesn't match." (request 06)
abbrev pub numbered : List ℕ → Result (Option ℕ) Refusal
numbered [] = Ok None
numbered (n ∷ ns) = Ok (Some n)

abbrev pub matches : (provider offset : ℕ) → Entry → Bool
matches provider offset t = eqb (word_of TEMPLATE_PROVIDER t) provider && eqb (word_of TEMPLATE_OFFSET t) offset

unfoldable pub by_offset : List ℕ → List ℕ → List ℕ → (provider first count offset : ℕ) → Result (Option ℕ) Refusal
by_offset words capacities counts provider first count offset =
    choose (lent_enough capacities words)
    (choose (counts_fit counts capacities && leb (first + count) (of TEMPLATES counts))
    (numbered (position (matches provider offset) first (take count (drop first (entries_of words capacities counts TEMPLATES)))))
    (Err (own 10)))
    (Err (own 8))

-- two runs of words are the same
unfoldable pub alike : List ℕ → List ℕ → Bool
alike [] [] = true
alike [] (y ∷ ys) = false
alike (x ∷ xs) [] = false
alike (x ∷ xs) (y ∷ ys) = eqb x y && alike xs ys

-- one of some GUIDs
unfoldable pub among : Entry → List Entry → Bool
among g [] = false
among g (h ∷ hs) = choose (alike g h) true (among g hs)

-- "each once, in first-seen order"
unfoldable pub once : List Entry → List Entry → List Entry
once seen [] = []
once seen (g ∷ gs) = choose (among g seen) (once seen gs) (g ∷ once (g ∷ seen) gs)

-- "10 | lookup over lists that don't fit together | 0; 0, 0" (the answer). "10 if any table entry names a missing provider or a range
-- past its list, or its kind isn't 1 to 8, and for nothing else but such counts."
abbrev pub table_fits : List ℕ → Entry → Bool
table_fits counts t =
    ltb (word_of TABLE_PROVIDER t) (of PROVIDERS counts) && (leb 1 (word_of TABLE_KIND t) && (leb (word_of TABLE_KIND t) 8
    && leb (word_of TABLE_FIRST t + word_of TABLE_COUNT t) (of (kind_list (word_of TABLE_KIND t)) counts)))

abbrev pub tables_fit : List ℕ → List Entry → Bool
tables_fit counts ts = every (λ t. table_fits counts t) ts

-- the entries of a table's range, in their list
abbrev pub range_of : List Entry → Entry → List Entry
range_of es t = take (word_of TABLE_COUNT t) (drop (word_of TABLE_FIRST t) es)

-- "10 is also given by the key lookup if a kind 8 table's range holds a template of another provider." (request 06)
abbrev pub all_of : ℕ → List Entry → Bool
all_of provider ts = every (λ t. eqb (word_of TEMPLATE_PROVIDER t) provider) ts

abbrev pub table_owns : List Entry → Entry → Bool
table_owns templates t = not (eqb (word_of TABLE_KIND t) TTBL) || all_of (word_of TABLE_PROVIDER t) (range_of templates t)

abbrev pub tables_own : List Entry → List Entry → Bool
tables_own templates ts = every (λ t. table_owns templates t) ts

-- "A provider's first table entry of a kind is used.": the entries of its range
abbrev pub owned_by : List Entry → ℕ → ℕ → List Entry → List Entry
owned_by tables provider kind es =
    flat (range_of es)
    (take 1 (select (λ t. eqb (word_of TABLE_PROVIDER t) provider && eqb (word_of TABLE_KIND t) kind) tables))

-- "the seven fields `event_id` to `keywords`", as an event's first eight words
abbrev pub key_words : Key → List ℕ
key_words k = k.identifier ∷ k.version ∷ k.channel ∷ k.level ∷ k.opcode ∷ k.task ∷ k.low ∷ k.high ∷ []

-- an event with that key and a template offset
abbrev pub keyed : Key → Entry → Bool
keyed k e = alike (take KEY e) (key_words k) && not (eqb (word_of EVENT_TEMPLATE e) 0)

-- the GUID of the lowest of some templates at an offset; none or one
abbrev pub guid_at_offset : List Entry → ℕ → List Entry
guid_at_offset ts offset = map (λ t. take GUID (drop TEMPLATE_GUID t)) (take 1 (select (λ t. eqb (word_of TEMPLATE_OFFSET t) offset) ts))

-- "Its events with that key, a template offset and a found template give template GUIDs": those of a provider, by its number, "each event
-- resolved in its own provider's templates" (request 02)
abbrev pub guids_of_provider : List ℕ → List ℕ → List ℕ → Key → ℕ → List Entry
guids_of_provider words capacities counts key p =
    let tables = entries_of words capacities counts TABLES in
    let ts = owned_by tables p TTBL (entries_of words capacities counts TEMPLATES) in
    flat (λ e. guid_at_offset ts (word_of EVENT_TEMPLATE e)) (select (keyed key) (owned_by tables p EVNT (entries_of words capacities counts EVENTS)))

-- "The key lookup now goes through all providers with that GUID, in order, .. GUIDs still given once." (request 02)
unfoldable pub guids_of : List ℕ → List ℕ → List ℕ → Key → List Entry
guids_of words capacities counts key =
    once [] (flat (λ p. guids_of_provider words capacities counts key p) (positions (λ p. alike (take GUID p) (guid_words key.guid)) 0 (entries_of words capacities counts PROVIDERS)))

-- "By key .. into a lent list of 4-word entries (9, list number 11, if short)"; "A list lent singly has as capacity its length over its
-- entry's words, rounded down." (the answer)
unfoldable pub by_key : List ℕ → List ℕ → List ℕ → Key → List ℕ → Outcome (List Entry)
by_key words capacities counts key lent =
    let capacity = length lent / GUID in
    let found = guids_of words capacities counts key in
    let tables = entries_of words capacities counts TABLES in
    choose (lent_enough capacities words && leb capacity 65536)
    (choose (counts_fit counts capacities && (tables_fit counts tables && tables_own (entries_of words capacities counts TEMPLATES) tables))
    (choose (leb (length found) capacity) (done found) (refused (too_small GUIDS capacity)))
    (refused (own 10)))
    (refused (own 8))

-- what the code answers, and what the lent list then holds
abbrev pub guids_found : Outcome (List Entry) → Result ℕ Refusal
guids_found o = as_result (λ gs. length gs) o

abbrev pub guids_held : List ℕ → Outcome (List Entry) → List ℕ
guids_held lent (done gs) = laid lent 0 (flat (λ g. g) gs)
guids_held lent (refused r) = lent

-- What the lookups may answer and leave in the lent list: this, and nothing else. It is what the code promises.
pub record AllowedAt (words capacities counts : List ℕ) (provider first count offset : ℕ) (f : Result (Option ℕ) Refusal) : Type 0 where
  pub answered : f ≡ by_offset words capacities counts provider first count offset

pub record AllowedFor (words capacities counts : List ℕ) (key : Key) (lent : List ℕ) (f : Result ℕ Refusal) (after : List ℕ) : Type 0 where
  pub answered : f ≡ guids_found (by_key words capacities counts key lent)
  pub kept : after ≡ guids_held lent (by_key words capacities counts key lent)
