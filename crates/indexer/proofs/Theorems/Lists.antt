-- What is written of any lists of 32-bit words reads back as the index of these lists.
use Prim.{tt}
use Rattle.std.specs.Prelude.{ℕ, zero, suc, ◌≤◌, ◌<◌, ◌≡◌, Bool, true, false, not, ◌&&◌, length, take, leb, eqb}
use mathlib.Core.List.{List, [], ◌∷◌, ◌++◌, map}
use native.Mathlib.Omega.{arith}
use Rattle.std.proofs.Common.{length-append}
use Rattle.std.proofs.lemmas.List.{length-map}
use borrow.Author.Tests.{leb-true, eqb-true}
use Rattle.blob.specs.Reading.{done, choose}
use Rattle.blob.proofs.Laws.{same, both, choose-done}
use Rattle.blob.specs.Places.{Each}
use Rattle.format.specs.Area.{PROVIDERS, TABLES, EVENTS, TEMPLATES}
use Rattle.format.specs.Entry.{TABLE_PROVIDER, TABLE_KIND}
use Rattle.format.specs.Table.{EVNT}
use Rattle.format.specs.Lists.{Entry}
use Rattle.format.specs.Answer.{lent_enough}
use Rattle.format.specs.Lookup.{entries_of, word_of, counts_fit, select, every, tables_fit, tables_own}
use Rattle.format.specs.Join.{those}
use Rattle.format.specs.Owner.{member, firsts, ranges, owners_of, each_owned, finds, found_from, events_owned, found_events}
use Rattle.format.proofs.Theorems.Known.{All, all_append}
use Rattle.number.specs.Number.{BYTE, HALF, WORD, LONG}
use Rattle.index.specs.Index.{ENTRY, index, written, entry_of, UNKNOWN2_COUNT, fit, fields_fit, index_of, together, writing}
use Rattle.index.proofs.Theorems.Rows.{Within}
use Rattle.index.proofs.Theorems.Back.{Writable, reads_back}
use Rattle.indexer.proofs.Theorems.Inside.{Whole, list-whole}

-- a word of some words, and of none
word_at : (e : List ℕ) → Each (λ w. w < 4294967296) e → (i : ℕ) → word_of i e ≤ WORD
word_at [] h i = omega arith
word_at (w ∷ e) h zero = omega (arith, h.0)
word_at (w ∷ e) h (suc i) = word_at e h.1 i

-- what holds of all holds of those that are picked, and these are no more
module _ {A : Type 0} (P : A → Type 0) where
  all_either : (t : Bool) (xs ys : List A) → All P xs → All P ys → All P (choose t xs ys)
  all_either true xs ys g h = g
  all_either false xs ys g h = h

  all-those : (p : A → Bool) (vs : List A) → All P vs → All P (those p vs)
  unfolding those
  all-those p [] h = tt
  all-those p (a ∷ vs) h = all_either (p a) (a ∷ those p vs) (those p vs) (h.0, all-those p vs h.1) (all-those p vs h.1)

all_firsts : (P : Entry → Type 0) (kind : ℕ) (seen : List ℕ) (ts : List Entry) → All P ts → All P (firsts kind seen ts)
unfolding firsts
all_firsts P kind seen [] h = tt
all_firsts P kind seen (t ∷ ts) h =
    let p = word_of TABLE_PROVIDER t in
    all_either P (eqb (word_of TABLE_KIND t) kind && not (member p seen)) (t ∷ firsts kind (p ∷ seen) ts) (firsts kind seen ts) (h.0, all_firsts P kind (p ∷ seen) ts h.1) (all_firsts P kind seen ts h.1)

all_map : {A B : Type 0} (P : A → Type 0) (Q : B → Type 0) (f : A → B) → ((a : A) → P a → Q (f a)) → (vs : List A) → All P vs → All Q (map f vs)
all_map P Q f g [] h = tt
all_map P Q f g (a ∷ vs) h = (g a h.0, all_map P Q f g vs h.1)

those-few : {A : Type 0} (p : A → Bool) (vs : List A) → length (those p vs) ≤ length vs
unfolding those
those-few p [] = omega arith
those-few p (a ∷ vs) = go (p a) (those-few p vs)
  where
    go : (t : Bool) → length (those p vs) ≤ length vs → length (choose t (a ∷ those p vs) (those p vs)) ≤ suc (length vs)
    go true h = omega arith
    go false h = omega arith

-- an entry's numbers: those that are tested have their widths, the others are made of words
fit_then : (ws vs e ns : List ℕ) → fit ws e ≡ true → length ws ≤ length e → Within vs ns → Within (ws ++ vs) (take (length ws) e ++ ns)
unfolding fit
fit_then [] vs e ns f n h = h
fit_then (w ∷ ws) vs [] ns f n h = absurd (omega arith)
fit_then (w ∷ ws) vs (a ∷ e) ns f n h = let b = both (leb a w) _ f in (leb-true a w b.0, fit_then ws vs e ns b.1 (omega arith) h)

entry-within : (p : ℕ) (e : Entry) → p ≤ WORD → Whole 16 e → fields_fit e ≡ true → Within ENTRY (entry_of (p ∷ e))
entry-within p e h w f =
    (h, fit_then (HALF ∷ BYTE ∷ BYTE ∷ BYTE ∷ BYTE ∷ HALF ∷ []) (LONG ∷ WORD ∷ []) e _ f (omega arith) (omega (arith, word_at e w.1 6, word_at e w.1 7), (word_at e w.1 9, tt)))

-- the found events: each has its widths, and where each event has one owner they are no more than the events
module _ (tables templates : List Entry) where
  owners_words : All (Whole 9) tables → (i : ℕ) → All (λ p. p ≤ WORD) (owners_of tables i)
  unfolding select those
  owners_words t i =
      let all = firsts EVNT [] tables in
      all_map (Whole 9) (λ p. p ≤ WORD) (word_of TABLE_PROVIDER) (λ e w. word_at e w.1 TABLE_PROVIDER) (those (ranges i) all)
      (all-those (Whole 9) (ranges i) all (all_firsts (Whole 9) EVNT [] tables t))

  found_within : All (Whole 9) tables → (i : ℕ) (es : List Entry) → All (Whole 16) es → every (λ e. fields_fit e) es ≡ true
      → All (λ f. Within ENTRY (entry_of f)) (found_from tables templates i es)
  unfolding found_from every
  found_within t i [] w f = tt
  found_within t i (e ∷ es) w f =
      let g = both (fields_fit e) _ f in
      let ps = those (finds tables templates e) (owners_of tables i) in
      all_append _ (map (λ p. p ∷ e) ps) _
      (all_map (λ p. p ≤ WORD) _ (λ p. p ∷ e) (λ p h. entry-within p e h w.0 g.0) ps (all-those _ (finds tables templates e) _ (owners_words t i)))
      (found_within t (suc i) es w.1 g.1)

  found-few : (i : ℕ) (es : List Entry) → each_owned tables (length es) i ≡ true → length (found_from tables templates i es) ≤ length es
  unfolding found_from each_owned
  found-few i [] o = omega arith
  found-few i (e ∷ es) o =
      let u = both (eqb (length (owners_of tables i)) 1) _ o in
      let n = eqb-true (length (owners_of tables i)) 1 u.0 in
      simp (length-append, length-map) (omega (arith, those-few (finds tables templates e) (owners_of tables i), found-few (suc i) es u.1))

module _ (words capacities counts : List ℕ) (b : Each (λ w. w < 4294967296) words) where
  pub lists-writable : lent_enough capacities words ≡ true → together words capacities counts ≡ true → Writable (index_of words capacities counts)
  lists-writable l t =
      let list : ℕ → List Entry = entries_of words capacities counts in
      let h = both (counts_fit counts capacities && (tables_fit counts (list TABLES) && tables_own (list TEMPLATES) (list TABLES))) _ t in
      let w = list-whole words capacities counts b (l, (both (counts_fit counts capacities) _ h.0).0) in
      let o = both (events_owned words capacities counts) _ h.1 in
      let few = found-few (list TABLES) (list TEMPLATES) 0 (list EVENTS) (rw (w EVENTS).0 o.0) in
      let found = found_events words capacities counts in
      record {
        providers = omega (arith, length-map (list PROVIDERS) (word_of UNKNOWN2_COUNT), w PROVIDERS);
        counts = all_map (Whole 9) (λ n. n ≤ WORD) (word_of UNKNOWN2_COUNT) (λ e q. word_at e q.1 UNKNOWN2_COUNT) (list PROVIDERS) (w PROVIDERS).2;
        events = omega (arith, length-map found entry_of, w EVENTS);
        entries = all_map _ (Within ENTRY) entry_of (λ f q. q) found (found_within (list TABLES) (list TEMPLATES) (w TABLES).2 0 (list EVENTS) (w EVENTS).2 o.1);
      }

  pub lists_back : (lent bytes : List ℕ) → writing words capacities counts lent ≡ done bytes → index bytes ≡ done (index_of words capacities counts)
  unfolding writing
  lists_back lent bytes e =
      let l = choose-done (lent_enough capacities words) _ _ bytes e in
      let t = choose-done (together words capacities counts) _ _ bytes l.1 in
      let r = choose-done (leb (length (written (index_of words capacities counts))) (length lent)) _ _ bytes t.1 in
      rw (← same _ _ r.1) (reads_back (index_of words capacities counts) (lists-writable l.0 t.0))
