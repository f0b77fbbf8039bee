-- The lookup by key, by what was tested and found.
use Prim.{tt}
use Rattle.std.specs.Prelude.{Option, Some, None, Err, ℕ, ◌+◌, ◌/◌, ◌≤◌, ◌<◌, ◌≡◌, Bool, true, false, ◌&&◌, length, Ok}
use Rattle.std.proofs.Math.Path.{refl, ap, ap₂, sym}
use Rattle.std.proofs.Common.{◌∙◌, arith}
use mathlib.Core.List.{List, [], ◌∷◌, ◌++◌, map, map-append}
use borrow.Author.Tests.{le-leb, lt-leb}
use Rattle.blob.specs.Reading.{Outcome, done, refused}
use Rattle.blob.proofs.Asks.{inside_append}
use Rattle.blob.specs.Laid.{laid, flat}
use Rattle.blob.specs.Places.{Each}
use Rattle.blob.specs.declared.Refusal.{Refusal}
use Rattle.format.specs.Area.{PROVIDERS, TABLES, EVENTS, TEMPLATES, place, width}
use Rattle.format.specs.Entry.{GUID, EVENT_TEMPLATE}
use Rattle.format.specs.Table.{EVNT, TTBL}
use Rattle.format.specs.Lists.{Entry, guid_words}
use Rattle.format.specs.Answer.{own, lent_enough}
use Rattle.format.specs.Lookup.{entries_of, word_of, select, position, positions, counts_fit, tables_fit, tables_own, once, keyed, key_words, guid_at_offset, guids_of_provider, guids_of, by_key, guids_found, guids_held}
use Rattle.format.specs.declared.Key.{Key}
use Rattle.lists.specs.declared.Run.{Run}
use Rattle.lists.specs.Fit.{refused_as, inside, whole-entries}
use Rattle.lists.specs.Found.{entries, few, run_of, has, found, tables_hold, fit_together, Fit, owned}
use Rattle.lists.specs.Search.{and_true, told, position-single, positions-none, run-positions}
use Rattle.lists.specs.Tables.{owned-entries}
use Rattle.lookup.specs.declared.Walk.{Walk}
use Rattle.lookup.specs.Given.{Part, guid_of, firsts, unset, came_to, came, next_provider, arrived, numbers_from, numbers_of_all, new_at, room_for}
use Rattle.lookup.specs.Once.{keyed-guids, numbers_below, given-once}

and_false : (b : Bool) → (b && false) ≡ false
and_false true = refl
and_false false = refl

-- the refusals before anything is looked for
module _ (words capacities counts : List ℕ) (key : Key) (lent : List ℕ) where
  pub key-wide : 65536 < length lent / GUID → by_key words capacities counts key lent ≡ refused (own 8)
  unfolding by_key
  key-wide h = rw (lt-leb _ _ h, and_false)

  pub key-refused : length lent / GUID ≤ 65536 → (r : Refusal) → fit_together words capacities counts ≡ Err r → by_key words capacities counts key lent ≡ refused r
  unfolding by_key
  key-refused h r e =
      rw (le-leb _ _ h, and_true (lent_enough capacities words))
      (refused_as refused _ (lent_enough capacities words) (counts_fit counts capacities && tables_hold counts (entries_of words capacities counts TEMPLATES) (entries_of words capacities counts TABLES)) r e)

  pub key-room : length lent / GUID ≤ 65536 → Fit words capacities counts → tables_fit counts (entries_of words capacities counts TABLES) ≡ true
      → tables_own (entries_of words capacities counts TEMPLATES) (entries_of words capacities counts TABLES) ≡ true
      → by_key words capacities counts key lent ≡ room_for lent (guids_of words capacities counts key)
  unfolding by_key
  key-room h f t o = rw (f.0, le-leb _ _ h, f.1, t, o)

-- Where no event is left, the next provider decides: its events come next; where there is none, it is over.
module _ (words capacities counts guid key : List ℕ) (providers : Run) (marks : List Bool) where
  abbrev left : List ℕ
  left = firsts words (run_of capacities counts (place TEMPLATES)) marks (numbers_of_all words capacities counts guid key providers)

  abbrev searched : List ℕ
  searched = position (has 0 guid) providers.first (entries (width PROVIDERS) providers words)

  pub come_to : left ≡ new_at words capacities counts guid key marks (next_provider words capacities counts guid providers)
  unfolding flat firsts
  come_to = rw (position-single (has 0 guid) providers.first (entries (width PROVIDERS) providers words)) (go (found searched) refl)
    where
      go : (f : Option ℕ) → found searched ≡ f → left ≡ new_at words capacities counts guid key marks (came words capacities counts providers (told f))
      go None e = rw (positions-none (has 0 guid) providers.first (entries (width PROVIDERS) providers words) e)
      go (Some p) e =
          ap (λ (ps : List ℕ). firsts words (run_of capacities counts (place TEMPLATES)) marks (flat (λ n. numbers_from words capacities counts guid key n) ps))
          (run-positions (has 0 guid) words (width PROVIDERS) providers p e).0

-- over lists that fit together: a provider's events and templates stand in the words
module _ (words capacities counts : List ℕ) (f : Fit words capacities counts) (t : tables_fit counts (entries_of words capacities counts TABLES) ≡ true) where
  abbrev list : Run
  list = run_of capacities counts (place TEMPLATES)

  pub events-in : (p : ℕ) → few (width EVENTS) (owned words capacities counts p EVNT) words
  events-in p =
      let i = inside words capacities counts f (place EVENTS) in
      let o = owned-entries words capacities counts EVENTS EVNT refl p (entries_of words capacities counts TABLES) t in
      (omega (arith, i.0, o.begins, o.within), omega (arith, i.1, o.within))

  pub templates_in : (p : ℕ) → Part list (owned words capacities counts p TTBL) words
  templates_in p =
      let o = owned-entries words capacities counts TEMPLATES TTBL refl p (entries_of words capacities counts TABLES) t in
      (inside words capacities counts f (place TEMPLATES), o.begins, o.within)

  -- where the lookup stands, at a provider that was found
  pub came-to : (guid : List ℕ) (providers : Run) → few (width PROVIDERS) providers words → (p : ℕ)
      → found (position (has 0 guid) providers.first (entries (width PROVIDERS) providers words)) ≡ Some p
      → (p < providers.first + providers.count) × arrived words list providers (Some (came_to words capacities counts providers p))
  came-to guid providers s p e =
      let r = run-positions (has 0 guid) words (width PROVIDERS) providers p e in
      (omega (arith, r.2), ((events-in p, templates_in p, (omega (arith, r.1, r.2, s), omega (arith, r.1, r.2, s))), omega (arith, r.1, r.2)))

  -- what the events of some providers give is in list 9, and the GUIDs are the definition's
  module _ (key : Key) where
    abbrev from : ℕ → List ℕ
    from p = numbers_from words capacities counts (guid_words key.guid) (key_words key) p

    guids_from_lem : (p : ℕ) → guids_of_provider words capacities counts key p ≡ map (guid_of words list) (from p)
    guids_from_lem p =
        let a = owned-entries words capacities counts EVENTS EVNT refl p (entries_of words capacities counts TABLES) t in
        let b = owned-entries words capacities counts TEMPLATES TTBL refl p (entries_of words capacities counts TABLES) t in
        ap₂ (λ (ts es : List Entry). flat (λ e. guid_at_offset ts (word_of EVENT_TEMPLATE e)) (select (keyed key) es)) b.equal a.equal
        ∙ keyed-guids words list (owned words capacities counts p TTBL) (templates_in p) (key_words key) (entries (width EVENTS) (owned words capacities counts p EVNT) words)

    guids_from_all : (ps : List ℕ) → flat (λ p. guids_of_provider words capacities counts key p) ps ≡ map (guid_of words list) (flat from ps)
    unfolding flat
    guids_from_all [] = refl
    guids_from_all (p ∷ ps) = ap₂ (λ (a b : List Entry). a ++ b) (guids_from_lem p) (guids_from_all ps) ∙ sym (map-append (guid_of words list) (from p) (flat from ps))

    below_all : (ps : List ℕ) → Each (λ n. n < list.count) (flat from ps)
    unfolding flat
    below_all [] = tt
    below_all (p ∷ ps) =
        inside_append list.count (from p) (flat from ps)
        (numbers_below words list (owned words capacities counts p TTBL) (templates_in p) (key_words key) (entries (width EVENTS) (owned words capacities counts p EVNT) words)) (below_all ps)

    all-given : guids_of words capacities counts key
        ≡ map (guid_of words list) (firsts words list unset (numbers_of_all words capacities counts (guid_words key.guid) (key_words key) (run_of capacities counts (place PROVIDERS))))
    unfolding guids_of
    all-given =
        let ps = positions (has 0 (guid_words key.guid)) 0 (entries (width PROVIDERS) (run_of capacities counts (place PROVIDERS)) words) in
        ap (λ (es : List Entry). once [] (flat (λ p. guids_of_provider words capacities counts key p) (positions (has 0 (guid_words key.guid)) 0 es))) (sym (whole-entries words capacities counts (place PROVIDERS)))
        ∙ ap (once []) (guids_from_all ps)
        ∙ sym (given-once words list (inside words capacities counts f (place TEMPLATES)) (flat from ps) (below_all ps))

    -- by the first provider that was come to, or none
    pub key-given : (c : Option Walk) → next_provider words capacities counts (guid_words key.guid) (run_of capacities counts (place PROVIDERS)) ≡ c
        → guids_of words capacities counts key ≡ map (guid_of words list) (new_at words capacities counts (guid_words key.guid) (key_words key) unset c)
    key-given c e =
        all-given
        ∙ ap (map (guid_of words list))
        (come_to words capacities counts (guid_words key.guid) (key_words key) (run_of capacities counts (place PROVIDERS)) unset
        ∙ ap (new_at words capacities counts (guid_words key.guid) (key_words key) unset) e)

-- where nothing is given, there is room
pub given-none : (lent : List ℕ) (gs : List Entry) → length gs ≤ 0 → (Ok 0 ≡ guids_found (room_for lent gs)) × (lent ≡ guids_held lent (room_for lent gs))
unfolding flat laid
given-none lent [] n =
    let h : 0 ≤ length lent / GUID = omega arith in
    let x : done [] ≡ room_for lent [] = rw (le-leb _ _ h) in
    (ap guids_found x, ap (guids_held lent) x)
given-none lent (g ∷ gs) n = absurd (omega arith)

-- a refusal keeps the lent list
pub refusal-keeps : (lent : List ℕ) (o : Outcome (List Entry)) (q r : Refusal) → q ≡ r → o ≡ refused r → (Err q ≡ guids_found o) × (lent ≡ guids_held lent o)
refusal-keeps lent o q r e x = (ap Err e ∙ ap guids_found (sym x), ap (guids_held lent) (sym x))
