-- A provider's first table entry of a kind has the range of that provider's own records in the kind's list; and each TTBL's range has
-- templates of its own provider alone.
use Rattle.std.specs.Prelude.{ℕ, suc, ◌+◌, ◌<◌, ◌≡◌, Bool, true, false, not, ◌&&◌, ◌||◌, length, take, drop, eqb}
use Rattle.std.proofs.Math.Path.{refl}
use Rattle.std.proofs.Common.{subst, ap, ap₂, sym, ◌∙◌, zero-add, add-zero, arith, length-append, length-set, get_or-set_same, get_or-set_other, eqb-true, eq-eqb, ne_eqb}
use mathlib.Core.List.{List, [], ◌∷◌, ◌++◌, map, append_assoc, append-nil}
use Rattle.std.proofs.lemmas.List.{length-map}
use Rattle.std.proofs.Math.Seq.{take-append_seam, drop-append_seam}
use Rattle.blob.specs.Reading.{choose}
use Rattle.blob.proofs.Laws.{both}
use Rattle.blob.specs.Laid.{flat, flat_map, map-flat}
use Rattle.format.specs.Area.{DEFINITIONS, EVENTS, MAPS, TEMPLATES, rows, place, none, of, more}
use Rattle.format.specs.Table.{EVNT, TTBL, kind_list}
use Rattle.format.specs.Template.{Template}
use Rattle.format.specs.Provider.{Rows, definitions, events, maps, templates, Table, Element, table, unknown, Provider}
use Rattle.format.specs.Lists.{Entry, or_else, last_of, kept, Owned, owned_tables, list_of, row_count, after, table_words, table_entries, event_words, template_words, events_in, templates_in}
use Rattle.format.specs.Entry.{TABLE_PROVIDER, TABLE_KIND}
use Rattle.format.specs.Lookup.{word_of, every, select, range_of, all_of, tables_own, owned_by}
use Rattle.format.specs.Join.{those, the_first, events_of, templates_of}
use Rattle.format.proofs.Theorems.Listed.{owned}
use Rattle.format.proofs.Theorems.Known.{All, Known, Sound, owned-known}

-- a provider's tables of a kind, and its entries of them
abbrev of_kind : ℕ → ℕ → Owned → Bool
of_kind n k o = eqb o.provider n && eqb o.table.kind k

abbrev entry_of_kind : ℕ → ℕ → Entry → Bool
entry_of_kind n k t = eqb (word_of TABLE_PROVIDER t) n && eqb (word_of TABLE_KIND t) k

abbrev ranged : List Entry → List Entry → List Entry
ranged es ts = flat (range_of es) (take 1 ts)

-- what a test picks of some values and more
pub those-append : {A : Type 0} (p : A → Bool) (xs ys : List A) → those p (xs ++ ys) ≡ those p xs ++ those p ys
unfolding those
those-append p [] ys = refl
those-append {A} p (x ∷ xs) ys = go (p x) (those-append p xs ys)
  where
    go : (t : Bool) → those p (xs ++ ys) ≡ those p xs ++ those p ys → choose t (x ∷ those p (xs ++ ys)) (those p (xs ++ ys)) ≡ choose t (x ∷ those p xs) (those p xs) ++ those p ys
    go true ih = ap (λ (l : List A). x ∷ l) ih
    go false ih = ih

-- and of values that a function gives
pub those-map : {A B : Type 0} (f : A → B) (p : B → Bool) (vs : List A) → those p (map f vs) ≡ map f (those (λ a. p (f a)) vs)
unfolding those
those-map f p [] = refl
those-map {A} {B} f p (a ∷ vs) = go (p (f a)) (those-map f p vs)
  where
    go : (t : Bool) → those p (map f vs) ≡ map f (those (λ a. p (f a)) vs)
        → choose t (f a ∷ those p (map f vs)) (those p (map f vs)) ≡ map f (choose t (a ∷ those (λ a. p (f a)) vs) (those (λ a. p (f a)) vs))
    go true ih = ap (λ (l : List B). f a ∷ l) ih
    go false ih = ih

-- of a provider's own tables those of the kind, and none of another's
those-own : (n k : ℕ) (ts : List Table) → those (of_kind n k) (owned n ts) ≡ owned n (those (λ t. eqb t.kind k) ts)
those-own n k ts = those-map (λ t. record { provider = n; table = t }) (of_kind n k) ts ∙ rw (eq-eqb n n refl)

those-other : (n m k : ℕ) (ts : List Table) → (m ≡ n → ⊥) → those (of_kind n k) (owned m ts) ≡ []
unfolding those
those-other n m k [] h = refl
those-other n m k (t ∷ ts) h = rw (ne_eqb m n h) (those-other n m k ts h)

those-later : (n m k : ℕ) (ps : List Provider) → n < m → those (of_kind n k) (owned_tables m ps) ≡ []
unfolding those owned_tables
those-later n m k [] h = refl
those-later n m k (p ∷ ps) h =
    those-append (of_kind n k) (owned m (kept p.elements)) _ ∙ ap₂ (λ (a b : List Owned). a ++ b) (those-other n m k (kept p.elements) (λ e. omega arith)) (those-later n (suc m) k ps (omega arith))

those-here : (m k : ℕ) (qs : List Provider) (p : Provider) (rs : List Provider)
    → those (of_kind (m + length qs) k) (owned_tables m (qs ++ p ∷ rs)) ≡ owned (m + length qs) (those (λ t. eqb t.kind k) (kept p.elements))
unfolding owned_tables
those-here m k [] p rs =
    rw (add-zero m)
    (those-append (of_kind m k) (owned m (kept p.elements)) _
    ∙ ap₂ (λ (a b : List Owned). a ++ b) (those-own m k (kept p.elements)) (those-later m (suc m) k rs (omega arith))
    ∙ append-nil _)
those-here m k (q ∷ qs) p rs =
    let e : suc m + length qs ≡ m + suc (length qs) = omega arith in
    those-append (of_kind (m + suc (length qs)) k) (owned m (kept q.elements)) _
    ∙ ap₂ (λ (a b : List Owned). a ++ b) (those-other (m + suc (length qs)) m k (kept q.elements) (λ e. omega arith)) (subst (λ n. those (of_kind n k) (owned_tables (suc m) (qs ++ p ∷ rs)) ≡ owned n (those (λ t. eqb t.kind k) (kept p.elements))) e
    (those-here (suc m) k qs p rs))

-- the last table of a kind is of that kind, and one only
none-either : (b : Bool) → [] ≡ choose {A = List Table} b [] []
none-either true = refl
none-either false = refl

those-kind : (k j : ℕ) (es : List Element) → those (λ t. eqb t.kind k) (last_of j es) ≡ choose (eqb j k) (last_of j es) []
unfolding those last_of
those-kind k j [] = none-either (eqb j k)
those-kind k j (unknown u ∷ es) = those-kind k j es
those-kind k j (table t ∷ es) = go (last_of j es) (eqb t.kind j) refl (those-kind k j es)
  where
    go : (l : List Table) (b : Bool) → eqb t.kind j ≡ b → those (λ t. eqb t.kind k) l ≡ choose (eqb j k) l []
        → those (λ t. eqb t.kind k) (or_else l (choose b (t ∷ []) [])) ≡ choose (eqb j k) (or_else l (choose b (t ∷ []) [])) []
    go (u ∷ us) b e h = h
    go [] true e h = rw (eqb-true t.kind j e)
    go [] false e h = none-either (eqb j k)

pub last_one : (k : ℕ) (es : List Element) → take 1 (last_of k es) ≡ last_of k es
unfolding last_of
last_one k [] = refl
last_one k (unknown u ∷ es) = last_one k es
last_one k (table t ∷ es) = go (last_of k es) (eqb t.kind k) (last_one k es)
  where
    go : (l : List Table) (b : Bool) → take 1 l ≡ l → take 1 (or_else l (choose b (t ∷ []) [])) ≡ or_else l (choose b (t ∷ []) [])
    go (u ∷ us) b h = h
    go [] true h = refl
    go [] false h = refl

pub kept-events : (es : List Element) → those (λ t. eqb t.kind EVNT) (kept es) ≡ last_of EVNT es
unfolding flat those
kept-events es = simp (those-append, those-kind, append-nil)

kept-templates : (es : List Element) → those (λ t. eqb t.kind TTBL) (kept es) ≡ last_of TTBL es
unfolding flat those
kept-templates es = simp (those-append, those-kind, append-nil)

take_owned : (n : ℕ) (ts : List Table) → take 1 (owned n ts) ≡ owned n (take 1 ts)
take_owned n [] = refl
take_owned n (t ∷ ts) = refl

-- What a table has in a list, by its provider's number, with so many entries written before it.
module _ (l k : ℕ) (items : ℕ → Rows → List Entry) (mine : kind_list k ≡ l)
    (grows : (n : ℕ) (before : List ℕ) (r : Rows) → length before ≡ length rows → of l (after before r) ≡ of l before + length (items n r))
    (counts : (n : ℕ) (r : Rows) → list_of r ≡ l → row_count r ≡ length (items n r)) (start : 0 ≡ of l none)
    (kept-one : (es : List Element) → those (λ t. eqb t.kind k) (kept es) ≡ last_of k es) where
  abbrev items_of : Owned → List Entry
  items_of o = items o.provider o.table.rows

  -- the range of a table of the kind
  own_range : (m : ℕ) (before : List ℕ) (pre rest : List Entry) (o : Owned) → length pre ≡ of l before → Sound m o → eqb o.table.kind k ≡ true
      → range_of (pre ++ (items_of o ++ rest)) (table_words before o) ≡ items_of o
  own_range m before pre rest o g a t =
      let e = a.1.list ∙ ap kind_list (eqb-true o.table.kind k t) ∙ mine in
      ap₂ (λ m f. take m (drop f (pre ++ (items_of o ++ rest)))) (counts o.provider o.table.rows e) (ap (λ j. of j before) e ∙ sym g)
      ∙ ap (take (length (items_of o))) (drop-append_seam pre (items_of o ++ rest))
      ∙ take-append_seam (items_of o) rest

  -- what is written with a table
  behind-own : (before : List ℕ) (pre : List Entry) (o : Owned) → length before ≡ length rows → length pre ≡ of l before → length (pre ++ items_of o) ≡ of l (after before o.table.rows)
  behind-own before pre o h g = length-append pre (items_of o) ∙ ap (λ m. m + length (items_of o)) g ∙ sym (grows o.provider before o.table.rows h)

  range : (n m : ℕ) (before : List ℕ) (pre : List Entry) (os : List Owned) → length before ≡ length rows → length pre ≡ of l before → All (Sound m) os
      → owned_by (table_entries before os) n k (pre ++ flat items_of os) ≡ flat items_of (the_first (of_kind n k) os)
  unfolding flat select table_entries those
  range n m before pre [] h g a = refl
  range n m before pre (o ∷ os) h g a =
      go (of_kind n k o) refl (range n m (after before o.table.rows) (pre ++ items_of o) os (length-set before _ _ ∙ h) (behind-own before pre o h g) a.1)
    where
      others : List Entry
      others = select (entry_of_kind n k) (table_entries (after before o.table.rows) os)

      rest : List Entry
      rest = flat items_of os

      go : (t : Bool) → of_kind n k o ≡ t → ranged ((pre ++ items_of o) ++ rest) others ≡ flat items_of (the_first (of_kind n k) os)
          → ranged (pre ++ (items_of o ++ rest)) (choose t (table_words before o ∷ others) others)
          ≡ flat items_of (take 1 (choose t (o ∷ those (of_kind n k) os) (those (of_kind n k) os)))
      go true t ih = ap (λ (es : List Entry). es ++ []) (own_range m before pre rest o g a.0 (both (eqb o.provider n) _ t).1)
      go false t ih = ap (λ (es : List Entry). ranged es others) (sym (append_assoc pre (items_of o) rest)) ∙ ih

  -- of a provider with some before it
  owned-range : (qs : List Provider) (p : Provider) (rs : List Provider) → All (λ p. All Known (kept p.elements)) (qs ++ p ∷ rs)
      → owned_by (table_entries none (owned_tables 0 (qs ++ p ∷ rs))) (length qs) k (flat items_of (owned_tables 0 (qs ++ p ∷ rs)))
      ≡ flat (λ t. items (length qs) t.rows) (last_of k p.elements)
  owned-range qs p rs a =
      let ps = qs ++ p ∷ rs in
      range (length qs) (length ps) none [] (owned_tables 0 ps) refl start (owned-known 0 (length ps) ps (omega arith) a)
      ∙ ap (λ (os : List Owned). flat items_of (take 1 os)) ((rw (zero-add (length qs)) at (those-here 0 k qs p rs)) ∙ ap (owned (length qs)) (kept-one p.elements))
      ∙ ap (flat items_of) (take_owned (length qs) (last_of k p.elements) ∙ ap (owned (length qs)) (last_one k p.elements))
      ∙ flat_map items_of (λ t. record { provider = length qs; table = t }) (last_of k p.elements)

-- so many more in a list are more of it and of no other
more_of : (l n : ℕ) (before : List ℕ) → place l < length before → of l (more l n before) ≡ of l before + n
more_of l n before h = get_or-set_same before (place l) _ 0 h

more-other : (l j n : ℕ) (before : List ℕ) → (place l ≡ place j → ⊥) → of l (more j n before) ≡ of l before + 0
more-other l j n before h = get_or-set_other before (place j) (place l) _ 0 h ∙ sym (add-zero _)

abbrev pub event_items : ℕ → Rows → List Entry
event_items n r = map event_words (events_in r)

pub events-more : (n : ℕ) (before : List ℕ) (r : Rows) → length before ≡ length rows → of EVENTS (after before r) ≡ of EVENTS before + length (event_items n r)
events-more n before (definitions ds) h = more-other EVENTS DEFINITIONS (length ds) before (λ e. omega arith)
events-more n before (events es) h = rw (length-map es event_words) (more_of EVENTS (length es) before (omega arith))
events-more n before (maps ms) h = more-other EVENTS MAPS (length ms) before (λ e. omega arith)
events-more n before (templates ts) h = more-other EVENTS TEMPLATES (length ts) before (λ e. omega arith)

pub events-counted : (n : ℕ) (r : Rows) → list_of r ≡ EVENTS → row_count r ≡ length (event_items n r)
events-counted n (definitions ds) e = absurd (omega arith)
events-counted n (events es) e = sym (length-map es event_words)
events-counted n (maps ms) e = absurd (omega arith)
events-counted n (templates ts) e = absurd (omega arith)

abbrev pub template_items : ℕ → Rows → List Entry
template_items n r = map (template_words n) (templates_in r)

templates-more : (n : ℕ) (before : List ℕ) (r : Rows) → length before ≡ length rows → of TEMPLATES (after before r) ≡ of TEMPLATES before + length (template_items n r)
templates-more n before (definitions ds) h = more-other TEMPLATES DEFINITIONS (length ds) before (λ e. omega arith)
templates-more n before (events es) h = more-other TEMPLATES EVENTS (length es) before (λ e. omega arith)
templates-more n before (maps ms) h = more-other TEMPLATES MAPS (length ms) before (λ e. omega arith)
templates-more n before (templates ts) h = rw (length-map ts (template_words n)) (more_of TEMPLATES (length ts) before (omega arith))

templates-counted : (n : ℕ) (r : Rows) → list_of r ≡ TEMPLATES → row_count r ≡ length (template_items n r)
templates-counted n (definitions ds) e = absurd (omega arith)
templates-counted n (events es) e = absurd (omega arith)
templates-counted n (maps ms) e = absurd (omega arith)
templates-counted n (templates ts) e = sym (length-map ts (template_words n))

-- the records of a provider's EVNT, and of its TTBL
module _ (qs : List Provider) (p : Provider) (rs : List Provider) (a : All (λ p. All Known (kept p.elements)) (qs ++ p ∷ rs)) where
  pub events-range : owned_by (table_entries none (owned_tables 0 (qs ++ p ∷ rs))) (length qs) EVNT (flat (λ o. event_items o.provider o.table.rows) (owned_tables 0 (qs ++ p ∷ rs)))
      ≡ map event_words (events_of p)
  events-range =
      owned-range EVENTS EVNT event_items refl events-more events-counted refl kept-events qs p rs a
      ∙ sym (map-flat event_words (λ t. events_in t.rows) (last_of EVNT p.elements))

  pub templates-range : owned_by (table_entries none (owned_tables 0 (qs ++ p ∷ rs))) (length qs) TTBL (flat (λ o. template_items o.provider o.table.rows) (owned_tables 0 (qs ++ p ∷ rs)))
      ≡ map (template_words (length qs)) (templates_of p)
  templates-range =
      owned-range TEMPLATES TTBL template_items refl templates-more templates-counted refl kept-templates qs p rs a
      ∙ sym (map-flat (template_words (length qs)) (λ t. templates_in t.rows) (last_of TTBL p.elements))

-- each TTBL has templates of its own provider alone
all_own : (n : ℕ) (ts : List Template) → all_of n (map (template_words n) ts) ≡ true
unfolding every
all_own n [] = refl
all_own n (t ∷ ts) = rw (eq-eqb n n refl) (all_own n ts)

pub tables-own : (m : ℕ) (before : List ℕ) (pre : List Entry) (os : List Owned) → length before ≡ length rows → length pre ≡ of TEMPLATES before → All (Sound m) os
    → tables_own (pre ++ flat (λ o. template_items o.provider o.table.rows) os) (table_entries before os) ≡ true
unfolding flat every table_entries
tables-own m before pre [] h g a = refl
tables-own m before pre (o ∷ os) h g a =
    rw (owns (eqb o.table.kind TTBL) refl)
    (subst (λ all. tables_own all (table_entries (after before o.table.rows) os) ≡ true) (append_assoc pre mine others)
    (tables-own m (after before o.table.rows) (pre ++ mine) os (length-set before _ _ ∙ h) (behind-own TEMPLATES TTBL template_items refl templates-more templates-counted refl kept-templates before pre o h g) a.1))
  where
    mine : List Entry
    mine = template_items o.provider o.table.rows

    others : List Entry
    others = flat (λ o. template_items o.provider o.table.rows) os

    owns : (t : Bool) → eqb o.table.kind TTBL ≡ t → (not t || all_of o.provider (range_of (pre ++ (mine ++ others)) (table_words before o))) ≡ true
    owns true e = rw (own_range TEMPLATES TTBL template_items refl templates-more templates-counted refl kept-templates m before pre others o g a.0 e) (all_own o.provider (templates_in o.table.rows))
    owns false e = refl
