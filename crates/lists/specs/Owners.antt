-- Which provider each event belongs to: what it was given to, and the tables that are left, decide.
use Prim.Native.Nat.{ℕ, zero, suc, ◌+◌, ◌≤◌, ◌<◌}
use Rattle.std.specs.Prelude.{◌≡◌, Bool, ◌&&◌, ◌||◌, get_or, set, replicate, leb, ltb}
use Rattle.std.proofs.Math.Path.{refl, sym}
use Rattle.std.proofs.Common.{ap, ap₂, ◌∙◌, arith, length-append, get_or-set_same, get_or-set_other}
use Rattle.std.proofs.Math.Bool.{true, false, not}
use Rattle.std.proofs.lemmas.Bool.{false≢true}
use mathlib.Core.List.{List, [], ◌∷◌, ◌++◌, map, append_assoc}
use Rattle.std.proofs.Math.ListN.{length, length-set}
use Rattle.std.proofs.lemmas.List.{length-replicate, get_or-replicate}
use Rattle.std.proofs.Math.Dec.{eqb}
use borrow.Author.Tests.{eq-eqb, ne_eqb, eqb-true, eqb-false, ltb-true}
use Rattle.blob.specs.Reading.{choose}
use Rattle.blob.proofs.Laws.{both}
use Rattle.format.specs.Area.{PROVIDERS, EVENTS, of}
use Rattle.format.specs.Entry.{TABLE_PROVIDER, TABLE_KIND, TABLE_FIRST, TABLE_COUNT}
use Rattle.format.specs.Table.{EVNT}
use Rattle.format.specs.Lists.{Entry}
use Rattle.format.specs.Lookup.{word_of, select, every, table_fits, tables_fit}
use Rattle.format.specs.Owner.{member, firsts, ranges, owners_of, each_owned}
use Rattle.lists.specs.Tables.{fits_range}

-- no provider's number; and what is stored before any event is given
abbrev pub NOBODY : ℕ
NOBODY = 65536

abbrev pub nobodys : List ℕ
nobodys = replicate 65536 NOBODY

abbrev unset : List Bool
unset = replicate 65536 false

-- the provider that an event is given to, by what is stored; none or one
abbrev pub given : List ℕ → ℕ → List ℕ
given owners i = choose (eqb (get_or owners i 0) NOBODY) [] (get_or owners i 0 ∷ [])

-- the provider of a range, where an event is in it
abbrev pub claim : (first end provider : ℕ) → ℕ → List ℕ
claim first end provider i = choose (leb first i && ltb i end) (provider ∷ []) []

abbrev claim_of : Entry → ℕ → List ℕ
claim_of t = claim (word_of TABLE_FIRST t) (word_of TABLE_FIRST t + word_of TABLE_COUNT t) (word_of TABLE_PROVIDER t)

-- whether a table is an EVNT of a provider that is not seen; the providers seen, with its own; of tables, the first such of each provider
abbrev pub is_first : List Bool → Entry → Bool
is_first seen t = eqb (word_of TABLE_KIND t) EVNT && not (get_or seen (word_of TABLE_PROVIDER t) false)

abbrev pub see : List Bool → Entry → List Bool
see seen t = set seen (word_of TABLE_PROVIDER t) true

unfoldable pub unseen : List Bool → List Entry → List Entry
unseen seen [] = []
unseen seen (t ∷ ts) = choose (is_first seen t) (t ∷ unseen (see seen t) ts) (unseen seen ts)

-- the providers of those of them that have an event
abbrev claims : List Bool → List Entry → ℕ → List ℕ
claims seen ts i = map (word_of TABLE_PROVIDER) (select (ranges i) (unseen seen ts))

-- an event's owners: the one that it is given to, and those that the tables that are left give it to
abbrev pub owners_left : List ℕ → List Bool → List Entry → ℕ → List ℕ
owners_left owners seen ts i = given owners i ++ claims seen ts i

-- What is told of a range: all of its events are given, or one of them has two owners.
abbrev pub EventsTaken : List ℕ → (first end provider : ℕ) → List ℕ → Bool → Type 0
EventsTaken owners first end provider owners' true = (length owners' ≡ length owners) × ((i : ℕ) → given owners i ++ claim first end provider i ≡ given owners' i)
EventsTaken owners first end provider owners' false = (i : ℕ) × (i < end) × (1 < length (given owners i ++ claim first end provider i))

-- the same of a table, whatever tables are behind it
abbrev pub TableTaken : List ℕ → List Bool → Entry → List ℕ → List Bool → Bool → Type 0
TableTaken owners seen t owners' seen' true = (length owners' ≡ length owners) × ((ts : List Entry) (i : ℕ) → owners_left owners seen (t ∷ ts) i ≡ owners_left owners' seen' ts i)
TableTaken owners seen t owners' seen' false =
    (word_of TABLE_KIND t ≡ EVNT) × ((i : ℕ) × (i < word_of TABLE_FIRST t + word_of TABLE_COUNT t) × ((ts : List Entry) → 1 < length (owners_left owners seen (t ∷ ts) i)))

-- a table of which this can be told: its provider has a number, and its range, if it is an EVNT, is one of events
abbrev pub Bounded : Entry → Type 0
Bounded t = (word_of TABLE_PROVIDER t < NOBODY) × (word_of TABLE_KIND t ≡ EVNT → word_of TABLE_FIRST t + word_of TABLE_COUNT t ≤ 65536)

-- What is told of all events: each is given, or one is not.
abbrev pub AllOwned : List ℕ → ℕ → Bool → Type 0
AllOwned owners n true = (i : ℕ) → i < n → get_or owners i 0 ≡ NOBODY → ⊥
AllOwned owners n false = (i : ℕ) × (i < n) × (get_or owners i 0 ≡ NOBODY)

-- each event has one owner, and this is the one that is stored; there are as many words as before
abbrev pub Owns : List Entry → ℕ → List ℕ → Bool → Type 0
Owns tables n owners r = r ≡ true → (length owners ≡ 65536) × ((i : ℕ) → i < n → owners_of tables i ≡ get_or owners i 0 ∷ [])

-- A table is passed over, or it is its provider's first EVNT.
module _ (owners : List ℕ) (seen : List Bool) (t : Entry) where
  pub passed : is_first seen t ≡ false → TableTaken owners seen t owners seen true
  unfolding unseen
  passed e = (refl, λ ts i. rw e)

  split : is_first seen t ≡ true → (ts : List Entry) (i : ℕ) → owners_left owners seen (t ∷ ts) i ≡ (given owners i ++ claim_of t i) ++ claims (see seen t) ts i
  unfolding unseen select
  split e ts i = rw e (go (ranges i t) (select (ranges i) (unseen (see seen t) ts))) ∙ sym (append_assoc (given owners i) _ _)
    where
      go : (b : Bool) (rest : List Entry)
          → given owners i ++ map (word_of TABLE_PROVIDER) (choose b (t ∷ rest) rest) ≡ given owners i ++ (choose b (word_of TABLE_PROVIDER t ∷ []) [] ++ map (word_of TABLE_PROVIDER) rest)
      go true rest = refl
      go false rest = refl

  pub taken : is_first seen t ≡ true → (owners' : List ℕ) (r : Bool)
      → EventsTaken owners (word_of TABLE_FIRST t) (word_of TABLE_FIRST t + word_of TABLE_COUNT t) (word_of TABLE_PROVIDER t) owners' r → TableTaken owners seen t owners' (see seen t) r
  taken e owners' true h = (h.0, λ ts i. split e ts i ∙ ap (λ (l : List ℕ). l ++ claims (see seen t) ts i) (h.1 i))
  taken e owners' false h =
      (eqb-true _ _ (both (eqb (word_of TABLE_KIND t) EVNT) _ e).0, (h.0, h.1, λ ts. omega (arith, h.2, ap length (split e ts h.0) ∙ length-append (given owners h.0 ++ claim_of t h.0) _)))

-- What the array has seen is what the list has: so at the start, and where a provider is seen.
none_seen : (n p : ℕ) → get_or (replicate n false) p false ≡ member p []
unfolding member
none_seen zero p = refl
none_seen (suc n) zero = refl
none_seen (suc n) (suc p) = none_seen n p

one_seen : (seen : List Bool) (s : List ℕ) → ((p : ℕ) → get_or seen p false ≡ member p s) → (q : ℕ) → q < length seen → (p : ℕ) → get_or (set seen q true) p false ≡ member p (q ∷ s)
unfolding member
one_seen seen s same q l p = go (eqb p q) refl
  where
    go : (t : Bool) → eqb p q ≡ t → get_or (set seen q true) p false ≡ (t || member p s)
    go true e = rw (eqb-true p q e) (get_or-set_same seen q true false l)
    go false e = get_or-set_other seen q p true false (eqb-false p q e) ∙ same p

module _ (counts : List ℕ) where
  -- a table that fits names a provider
  provider-there : (t : Entry) → table_fits counts t ≡ true → word_of TABLE_PROVIDER t < of PROVIDERS counts
  provider-there t f = ltb-true (word_of TABLE_PROVIDER t) (of PROVIDERS counts) (both (ltb (word_of TABLE_PROVIDER t) (of PROVIDERS counts)) _ f).0

  unseen-firsts : (ts : List Entry) (seen : List Bool) (s : List ℕ) → tables_fit counts ts ≡ true → of PROVIDERS counts ≤ length seen
      → ((p : ℕ) → get_or seen p false ≡ member p s) → unseen seen ts ≡ firsts EVNT s ts
  unfolding unseen firsts every
  unseen-firsts [] seen s f l same = refl
  unseen-firsts (t ∷ ts) seen s f l same =
      let p = word_of TABLE_PROVIDER t in
      let b = both (table_fits counts t) _ f in
      let k : p < length seen = omega (arith, provider-there t b.0) in
      rw (same p)
      (ap₂ (λ (xs ys : List Entry). choose (eqb (word_of TABLE_KIND t) EVNT && not (member p s)) (t ∷ xs) ys)
      (unseen-firsts ts (see seen t) (p ∷ s) b.1 (simp length-set l) (one_seen seen s same p k)) (unseen-firsts ts seen s b.1 l same))

  -- before any table, an event's owners are those that all tables give it to
  pub start : (ts : List Entry) → tables_fit counts ts ≡ true → of PROVIDERS counts ≤ 65536 → (owners : List ℕ) → owners ≡ nobodys
      → (i : ℕ) → i < 65536 → owners_of ts i ≡ owners_left owners unset ts i
  start ts f l owners o i h =
      let z : get_or owners i 0 ≡ NOBODY = ap (λ (os : List ℕ). get_or os i 0) o ∙ get_or-replicate 65536 i NOBODY 0 h in
      ap (λ (ts : List Entry). map (word_of TABLE_PROVIDER) (select (ranges i) ts)) (sym (unseen-firsts ts unset [] f (rw (length-replicate 65536 false) l) (none_seen 65536)))
      ∙ ap (λ (t : Bool). choose t [] (get_or owners i 0 ∷ []) ++ claims unset ts i) (sym (eq-eqb _ _ z))

-- each of some events has one owner, or one of them has not
module _ (ts : List Entry) where
  each-one : (n j : ℕ) → ((i : ℕ) → j ≤ i → i < j + n → length (owners_of ts i) ≡ 1) → each_owned ts n j ≡ true
  unfolding each_owned
  each-one zero j h = refl
  each-one (suc n) j h = rw (eq-eqb _ 1 (h j (omega arith) (omega arith))) (each-one n (suc j) (λ i a b. h i (omega arith) (omega arith)))

  each-not : (n j i : ℕ) → j ≤ i → i < j + n → (length (owners_of ts i) ≡ 1 → ⊥) → each_owned ts n j ≡ false
  unfolding each_owned
  each-not zero j i a b h = absurd (omega arith)
  each-not (suc n) j i a b h = go (eqb i j) (eqb (length (owners_of ts j)) 1) refl refl (λ k. each-not n (suc j) i k (omega arith) h)
    where
      go : (t o : Bool) → eqb i j ≡ t → eqb (length (owners_of ts j)) 1 ≡ o → (j < i → each_owned ts n (suc j) ≡ false) → (o && each_owned ts n (suc j)) ≡ false
      go t false e q ih = refl
      go true true e q ih = absurd (h (rw (eqb-true i j e) (eqb-true _ 1 q)))
      go false true e q ih = ih (omega (arith, eqb-false i j e))

  -- What is told of all events decides, where no table is left.
  pub settled : (n : ℕ) (owners : List ℕ) → length owners ≡ 65536 → ((i : ℕ) → i < n → owners_of ts i ≡ given owners i) → (r : Bool) → AllOwned owners n r → (r ≡ each_owned ts n 0) × Owns ts n owners r
  settled n owners l g true h =
      let one : (i : ℕ) → i < n → owners_of ts i ≡ get_or owners i 0 ∷ [] = λ i b. g i b ∙ rw (ne_eqb _ _ (h i b)) in
      (sym (each-one n 0 (λ i a b. ap length (one i (omega arith)))), λ e. (l, one))
  settled n owners l g false h =
      let z : length (owners_of ts h.0) ≡ 0 = ap length (g h.0 h.1) ∙ rw (eq-eqb _ _ h.2) in
      (sym (each-not n 0 h.0 (omega arith) (omega arith) (λ e. omega arith)), λ e. absurd (false≢true e))

-- The next of the tables that are left fits, and what is told of it decides.
module _ (counts : List ℕ) (t : Entry) (rest : List Entry) (fit : tables_fit counts (t ∷ rest) ≡ true) where
  pub fits : (table_fits counts t ≡ true) × (tables_fit counts rest ≡ true)
  unfolding every
  fits = both (table_fits counts t) _ fit

  in_events : word_of TABLE_KIND t ≡ EVNT → word_of TABLE_FIRST t + word_of TABLE_COUNT t ≤ of EVENTS counts
  in_events = fits_range [] [] counts EVENTS EVNT refl t fits.0

  pub bounded : of PROVIDERS counts ≤ 65536 → of EVENTS counts ≤ 65536 → Bounded t
  bounded p n = (omega (arith, provider-there counts t fits.0), λ k. omega (arith, in_events k))

  pub two-owners : of EVENTS counts ≤ 65536 → (all : List Entry) (owners : List ℕ) (seen : List Bool) → ((i : ℕ) → i < 65536 → owners_of all i ≡ owners_left owners seen (t ∷ rest) i)
      → (owners' : List ℕ) (seen' : List Bool) → TableTaken owners seen t owners' seen' false
      → (false ≡ each_owned all (of EVENTS counts) 0) × Owns all (of EVENTS counts) owners' false
  two-owners n all owners seen h owners' seen' k =
      let b : k.1.0 < of EVENTS counts = omega (arith, in_events k.0) in
      (sym (each-not all (of EVENTS counts) 0 k.1.0 (omega arith) (omega arith) (λ e. omega (arith, k.1.2 rest, ap length (h k.1.0 (omega arith))))), λ e. absurd (false≢true e))
