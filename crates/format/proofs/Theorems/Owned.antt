-- In a reading's own lists each event lies in the EVNT range of one provider; and the events with a found template are those of the join
-- of what was read, each behind its provider's number.
use Prim.{Unit, tt}
use Rattle.std.specs.Prelude.{ℕ, suc, ◌+◌, ◌≤◌, ◌<◌, ◌≡◌, Bool, true, false, not, ◌&&◌, ◌||◌, length, take, leb, ltb, eqb}
use Rattle.std.proofs.Math.Path.{refl}
use Rattle.std.proofs.Common.{ap, ap₂, sym, ◌∙◌, subst, add-one, arith, length-set, length-append, eqb-true, ne_eqb, lt-ltb, le-ltb, le-leb}
use mathlib.Core.List.{List, [], ◌∷◌, ◌++◌, map, append_assoc}
use Rattle.std.proofs.lemmas.List.{length-map}
use Rattle.std.proofs.lemmas.Bool.{lt-leb}
use Rattle.blob.specs.Reading.{done, choose}
use Rattle.blob.proofs.Laws.{passes}
use Rattle.blob.specs.Laid.{flat}
use Rattle.format.specs.Area.{TABLES, EVENTS, TEMPLATES, rows, place, none, of}
use Rattle.format.specs.Entry.{TABLE_PROVIDER, TEMPLATE_OFFSET}
use Rattle.format.specs.Table.{EVNT, kind_list}
use Rattle.format.specs.Provider.{Rows, definitions, events, maps, templates, Table, Provider}
use Rattle.format.specs.Crim.{Crim}
use Rattle.format.specs.Lists.{Entry, last_of, kept, Owned, owned_tables, list_of, after, table_words, table_entries, event_words, template_words, events_in, lists}
use Rattle.format.specs.Answer.{reading, counted, held}
use Rattle.format.specs.Lookup.{word_of, select}
use Rattle.format.specs.Join.{those, some, events_of, templates_of, joins, joined}
use Rattle.format.specs.Owner.{member, firsts, ranges, each_owned, finds, found_from, events_owned, found_events}
use Rattle.format.specs.Steps.Needs.{of_tables}
use Rattle.format.proofs.Theorems.Listed.{owned, owned_words, owned_then}
use Rattle.format.proofs.Theorems.Needed.{owned_words_length}
use Rattle.format.proofs.Theorems.Known.{All, Known, Sound, owned-known, known}
use Rattle.format.proofs.Theorems.Taken.{read, taken}
use Rattle.format.proofs.Theorems.Ranges.{those-append, those-map, last_one, kept-events, events-more, events-counted, templates-range}
use Rattle.format.proofs.Theorems.Joins.{table_list, template_list}
use Rattle.format.specs.declared.Event.{Event}

-- whether a test picks one of the values that a function gives
some-map : {A B : Type 0} (f : A → B) (p : B → Bool) (vs : List A) → some p (map f vs) ≡ some (λ a. p (f a)) vs
unfolding some
some-map f p [] = refl
some-map f p (a ∷ vs) = ap (λ b. p (f a) || b) (some-map f p vs)

-- where the others give nothing, what all give is what those give that a test picks
flat-those : {A B : Type 0} (f : A → List B) (q : A → Bool) (P : A → Type 0) → ((a : A) → P a → q a ≡ false → f a ≡ []) → (vs : List A) → All P vs → flat f vs ≡ flat f (those q vs)
unfolding flat those
flat-those f q P h [] a = refl
flat-those {A} {B} f q P h (v ∷ vs) a = go (q v) refl (flat-those f q P h vs a.1)
  where
    go : (t : Bool) → q v ≡ t → flat f vs ≡ flat f (those q vs) → f v ++ flat f vs ≡ flat f (choose t (v ∷ those q vs) (those q vs))
    go true e ih = ap (λ (l : List B). f v ++ l) ih
    go false e ih = rw (h v a.0 e) ih

-- a table of another kind than EVNT has no events, so a provider's events are those of all tables that it keeps
no-events : (t : Table) → Known t → eqb t.kind EVNT ≡ false → events_in t.rows ≡ []
no-events t k e = go t.rows k.list
  where
    go : (r : Rows) → list_of r ≡ kind_list t.kind → events_in r ≡ []
    go (definitions ds) l = refl
    go (events es) l =
        let q : false ≡ true = rw (← l, e) at (passes 9 (λ k. choose (eqb (kind_list k) EVENTS) (eqb k EVNT) true) refl t.kind (omega (arith, k.high))) in
        absurd (let z : ◌≡◌ {A = ℕ} 0 1 = cc in omega arith)
    go (maps ms) l = refl
    go (templates ts) l = refl

all-events : (p : Provider) → All Known (kept p.elements) → of_tables events_in p ≡ events_of p
all-events p a =
    flat-those (λ t. events_in t.rows) (λ t. eqb t.kind EVNT) Known no-events (kept p.elements) a
    ∙ ap (flat (λ t. events_in t.rows)) (kept-events p.elements)

-- the providers' numbers rise from EVNT to EVNT
abbrev is_events : Owned → Bool
is_events o = eqb o.table.kind EVNT

abbrev Rises : ℕ → List Owned → Type 0
Rises n [] = Unit {0}
Rises n (o ∷ os) = (n ≤ o.provider) × Rises (suc o.provider) os

owned-rise : (n : ℕ) (ps : List Provider) → Rises n (those is_events (owned_tables n ps))
unfolding owned_tables those
owned-rise n [] = tt
owned-rise n (p ∷ ps) =
    rw (those-append is_events (owned n (kept p.elements)) (owned_tables (suc n) ps), those-map (λ t. record { provider = n; table = t }) is_events (kept p.elements), kept-events p.elements, ← last_one EVNT p.elements)
    (go (last_of EVNT p.elements) (those is_events (owned_tables (suc n) ps)) (owned-rise (suc n) ps))
  where
    go : (ts : List Table) (os : List Owned) → Rises (suc n) os → Rises n (owned n (take 1 ts) ++ os)
    go [] [] r = tt
    go [] (o ∷ os) r = (omega arith, r.1)
    go (t ∷ ts) os r = (omega arith, r)

-- an EVNT's range goes from what was written before it to what is written with it
events-between : (i : ℕ) (before : List ℕ) (o : Owned) → length before ≡ length rows → Known o.table → is_events o ≡ true
    → ranges i (table_words before o) ≡ (leb (of EVENTS before) i && ltb i (of EVENTS (after before o.table.rows)))
events-between i before o h k t =
    let r = o.table.rows in
    let e = k.list ∙ ap kind_list (eqb-true o.table.kind EVNT t) in
    let f = ap (λ l. of l before) e in
    ap₂ (λ m n. leb m i && ltb i n) f (ap₂ (λ m n. m + n) f (events-counted 0 r e) ∙ sym (events-more 0 before r h))

-- the events of some tables, each behind its provider's number
abbrev owned_events : List Owned → List Entry
owned_events os = flat (λ o. map (λ e. o.provider ∷ event_words e) (events_in o.table.rows)) os

-- the EVNT entries, of providers not yet seen, whose range has an event, by its number
abbrev having : List ℕ → List Entry → ℕ → List Entry
having seen tables i = select (ranges i) (firsts EVNT seen tables)

-- what is shown of such entries: for each of some events, from a number on, there is one, of the provider whose number stands before the
-- event; and there is none for an event before these
abbrev Owns : (ℕ → List Entry) → ℕ → List Entry → Type 0
Owns f i [] = Unit {0}
Owns f i (e ∷ es) = (map (word_of TABLE_PROVIDER) (f i) ≡ word_of 0 e ∷ []) × Owns f (suc i) es

abbrev From : (ℕ → List Entry) → ℕ → List Entry → Type 0
From f i es = ((j : ℕ) → j < i → f j ≡ []) × Owns f i es

-- so too with one more range, before theirs
module _ (f g : ℕ → List Entry) (t : Entry) where
  owns_same : (i : ℕ) (es : List Entry) → ((j : ℕ) → i ≤ j → f j ≡ g j) → Owns g i es → Owns f i es
  owns_same i [] h o = tt
  owns_same i (e ∷ es) h o = (ap (map (word_of TABLE_PROVIDER)) (h i (omega arith)) ∙ o.0, owns_same (suc i) es (λ j q. h j (omega arith)) o.1)

  owns_then : (i k : ℕ) (vs : List Event) (es : List Entry) → i + length vs ≡ k → ((j : ℕ) → i ≤ j → j < k → f j ≡ t ∷ []) → ((j : ℕ) → k ≤ j → f j ≡ g j)
      → Owns g k es → Owns f i (map (λ v. word_of TABLE_PROVIDER t ∷ event_words v) vs ++ es)
  owns_then i k [] es e h q o = let s : k ≡ i = omega arith in owns_same i es (λ j l. q j (omega arith)) (subst (λ i. Owns g i es) s o)
  owns_then i k (v ∷ vs) es e h q o = (ap (map (word_of TABLE_PROVIDER)) (h i (omega arith) (omega arith)), owns_then (suc i) k vs es (omega arith) (λ j l m. h j (omega arith) m) q o)

  from-range : (i k : ℕ) (vs : List Event) (es : List Entry) → i + length vs ≡ k → ((j : ℕ) → f j ≡ choose (leb i j && ltb j k) (t ∷ g j) (g j)) → From g k es
      → From f i (map (λ v. word_of TABLE_PROVIDER t ∷ event_words v) vs ++ es)
  from-range i k vs es e h o = (
    λ j l. h j ∙ rw (lt-leb i j l) (o.0 j (omega arith)),
    owns_then i k vs es e (λ j l m. h j ∙ rw (le-leb i j l, lt-ltb j k m, o.0 j m)) (λ j l. h j ∙ rw (le-leb i j (omega arith), le-ltb j k l)) o.1,
  )

-- the events of some tables are in the ranges of these
owns_events : (m n : ℕ) (seen before : List ℕ) (os : List Owned) → length before ≡ length rows → All (Sound m) os → ((j : ℕ) → n ≤ j → member j seen ≡ false) → Rises n (those is_events os)
    → From (having seen (table_entries before os)) (of EVENTS before) (owned_events os)
unfolding those flat select firsts table_entries member
owns_events m n seen before [] h a s r = (λ j l. refl, tt)
owns_events m n seen before (o ∷ os) h a s r = go (is_events o) refl r (λ n seen. owns_events m n seen (after before o.table.rows) os (length-set before _ _ ∙ h) a.1)
  where
    later : List ℕ
    later = after before o.table.rows

    mine : List Event
    mine = events_in o.table.rows

    ends : of EVENTS before + length mine ≡ of EVENTS later
    ends = rw (← length-map mine event_words) (sym (events-more 0 before o.table.rows h))

    go : (t : Bool) → is_events o ≡ t → Rises n (choose t (o ∷ those is_events os) (those is_events os))
        → ((n : ℕ) (seen : List ℕ) → ((j : ℕ) → n ≤ j → member j seen ≡ false) → Rises n (those is_events os) → From (having seen (table_entries later os)) (of EVENTS later) (owned_events os))
        → From (λ i. select (ranges i) (choose (t && not (member o.provider seen)) (table_words before o ∷ firsts EVNT (o.provider ∷ seen) (table_entries later os)) (firsts EVNT seen (table_entries later os)))) (of EVENTS before) (map (λ e. o.provider ∷ event_words e) mine ++ owned_events os)
    go true e r ih =
        from-range _ (having (o.provider ∷ seen) (table_entries later os)) (table_words before o) (of EVENTS before) (of EVENTS later) mine (owned_events os) ends
        (λ j. rw (s o.provider r.0, events-between j before o h a.0.1 e))
        (ih (suc o.provider) (o.provider ∷ seen) (λ j l. rw (ne_eqb j o.provider (λ q. omega arith)) (s j (omega arith))) r.1)
    go false e r ih =
        let z = no-events o.table a.0.1 e in
        let q : of EVENTS later ≡ of EVENTS before = omega (arith, ends, ap (λ (vs : List Event). length vs) z) in
        rw z (subst (λ k. From (having seen (table_entries later os)) k (owned_events os)) q (ih n seen s r))

-- with one such entry each event has one owner
each_owned_lem : (tables : List Entry) (i : ℕ) (es : List Entry) → Owns (having [] tables) i es → each_owned tables (length es) i ≡ true
unfolding each_owned
each_owned_lem tables i [] o = refl
each_owned_lem tables i (e ∷ es) o = rw o.0 (each_owned_lem tables (suc i) es o.1)

-- and the found ones are those of a provider that find a template, and then those of the others
found-then : (tables ts : List Entry) (n i : ℕ) (q : Event → Bool) (vs : List Event) (es others found : List Entry) → ((v : Event) → finds tables ts (event_words v) n ≡ q v)
    → ((i : ℕ) → Owns (having [] tables) i es → found_from tables ts i others ≡ found)
    → Owns (having [] tables) i (map (λ v. n ∷ event_words v) vs ++ es) → found_from tables ts i (map event_words vs ++ others) ≡ map (λ v. n ∷ event_words v) (those q vs) ++ found
unfolding found_from those
found-then tables ts n i q [] es others found f h o = h i o
found-then tables ts n i q (v ∷ vs) es others found f h o = rw (o.0, f v) (go (q v) (found-then tables ts n (suc i) q vs es others found f h o.1))
  where
    go : (t : Bool) {rest : List Entry} → rest ≡ map (λ v. n ∷ event_words v) (those q vs) ++ found
        → map (λ p. p ∷ event_words v) (choose t (n ∷ []) []) ++ rest ≡ map (λ v. n ∷ event_words v) (choose t (v ∷ those q vs) (those q vs)) ++ found
    go true ih = ap (λ (l : List Entry). (n ∷ event_words v) ∷ l) ih
    go false ih = ih

-- which, found among the provider's own templates, are those of the join
found-joined : (all : List Provider) → All (λ p. All Known (kept p.elements)) all → (qs rs : List Provider) → all ≡ qs ++ rs → All (λ p. All Known (kept p.elements)) rs → (i : ℕ)
    → Owns (having [] (table_list all)) i (owned_events (owned_tables (length qs) rs))
    → found_from (table_list all) (template_list all) i (owned_words (λ n. event_words) events_in (length qs) rs) ≡ joined (length qs) rs
unfolding joined owned_tables flat found_from
found-joined all a qs [] e b i o = refl
found-joined all a qs (p ∷ rs) e b i o =
    rw (owned_then (λ n. event_words) events_in (length qs) p rs, all-events p b.0)
    (found-then (table_list all) (template_list all) (length qs) i (joins p) (events_of p) (owned_events (owned_tables (suc (length qs)) rs)) _ _
    (λ v. rw (e, templates-range qs p rs (rw e at a), some-map (template_words (length qs)) (λ t. eqb (word_of TEMPLATE_OFFSET t) v.template) (templates_of p)))
    (rw (length-append qs (p ∷ []), add-one) at (found-joined all a (qs ++ p ∷ []) rs (e ∙ sym (append_assoc qs (p ∷ []) rs)) b.1))
    (rw (owned_then (λ n e. n ∷ event_words e) events_in (length qs) p rs, all-events p b.0) at o))

-- An accepted reading, with a capacity for each list.
module _ (bytes words capacities : List ℕ) (c : Crim) (e : reading bytes words capacities ≡ done c) (n : length capacities ≡ length rows) where
  owns : Owns (having [] (table_list c.providers)) 0 (owned_events (owned_tables 0 c.providers))
  unfolding member
  owns =
      let ps = c.providers in
      (owns_events (length ps) 0 [] none (owned_tables 0 ps) refl (owned-known 0 (length ps) ps (omega arith) (known bytes c (read bytes words capacities c e).found)) (λ j l. refl) (owned-rise 0 ps)).1

  pub events-owned : events_owned (held words capacities (done c)) capacities (counted (lists c.providers)) ≡ true
  unfolding lists
  events-owned =
      let ps = c.providers in
      rw (taken bytes words capacities c e n (place TABLES) (omega arith), owned_words_length (λ n. event_words) events_in 0 ps, ← owned_words_length (λ n e. n ∷ event_words e) events_in 0 ps)
      (each_owned_lem (table_list ps) 0 (owned_events (owned_tables 0 ps)) owns)

  pub events-found : found_events (held words capacities (done c)) capacities (counted (lists c.providers)) ≡ joined 0 c.providers
  unfolding lists
  events-found =
      let t = taken bytes words capacities c e n in
      let a = known bytes c (read bytes words capacities c e).found in
      rw (t (place TABLES) (omega arith), t (place TEMPLATES) (omega arith), t (place EVENTS) (omega arith)) (found-joined c.providers a [] c.providers refl a 0 owns)
