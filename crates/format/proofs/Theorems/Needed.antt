-- What the check counts is what the lists need: as far as anyone asks, each list's number of entries.
use Prim.{tt}
use Rattle.std.specs.Prelude.{ℕ, suc, ◌+◌, ◌≡◌, refl}
use Rattle.std.proofs.Common.{ap, sym, ◌∙◌, zero-add, add_assoc, arith, length-append}
use mathlib.Core.List.{List, [], ◌∷◌, ◌++◌, map}
use Rattle.std.proofs.Math.Nat.{add-zero}
use Rattle.std.proofs.Math.ListN.{length}
use Rattle.std.proofs.lemmas.List.{length-map}
use Rattle.blob.specs.Laid.{flat}
use Rattle.format.specs.Area.{Row, rows, none}
use Rattle.format.specs.Template.{Template}
use Rattle.format.specs.Map.{Mapped}
use Rattle.format.specs.Provider.{Rows, definitions, events, maps, templates, Table, Provider}
use Rattle.format.specs.Lists.{Entry, kept, unknowns, Owned, owned_tables, owned_unknowns, after, table_entries, definitions_in, events_in, maps_in, templates_in, map_list, item_list, lists}
use Rattle.format.specs.Answer.{counted, capped}
use Rattle.format.specs.Steps.Needs.{total, after_all, of_tables, entries_in, items_in, has, needs_of, plus, modest, needs_all}
use Rattle.format.proofs.Theorems.Listed.{owned_words, owned_then, all_inner, lists-itemized}

-- how many entries each list has of some tables, with so many before; written out for each row
module _ (a b c d h : ℕ) (others : List ℕ) where
  abbrev rows_of : ℕ → ℕ → ℕ → ℕ → List ℕ
  rows_of e f g i = a ∷ b ∷ c ∷ d ∷ e ∷ f ∷ g ∷ h ∷ i ∷ others

  abbrev counts : (e f g i : ℕ) → List Table → List ℕ
  counts e f g i ts =
      rows_of
      (e + length (flat (λ t. definitions_in t.rows) ts))
      (f + length (flat (λ t. events_in t.rows) ts))
      (g + length (flat (λ t. maps_in t.rows) ts))
      (i + length (flat (λ t. templates_in t.rows) ts))

  after_one : (e f g i : ℕ) (t : Table) (ts : List Table) → ((e f g i : ℕ) → after_all (rows_of e f g i) ts ≡ counts e f g i ts)
      → after_all (rows_of e f g i) (t ∷ ts) ≡ counts e f g i (t ∷ ts)
  unfolding flat after_all
  after_one e f g i t ts ih = one t.rows
    where
      one : (r : Rows) → after_all (after (rows_of e f g i) r) ts
          ≡ rows_of
          (e + length (definitions_in r ++ flat (λ t. definitions_in t.rows) ts))
          (f + length (events_in r ++ flat (λ t. events_in t.rows) ts))
          (g + length (maps_in r ++ flat (λ t. maps_in t.rows) ts))
          (i + length (templates_in r ++ flat (λ t. templates_in t.rows) ts))
      one (definitions ds) = ih (e + length ds) f g i ∙ rw (length-append ds, add_assoc)
      one (events es) = ih e (f + length es) g i ∙ rw (length-append es, add_assoc)
      one (maps ms) = ih e f (g + length ms) i ∙ rw (length-append ms, add_assoc)
      one (templates vs) = ih e f g (i + length vs) ∙ rw (length-append vs, add_assoc)

  pub after-all : (ts : List Table) (e f g i : ℕ) → after_all (rows_of e f g i) ts ≡ counts e f g i ts
  unfolding flat after_all
  after-all [] e f g i = simp add-zero
  after-all (t ∷ ts) e f g i = after_one e f g i t ts (after-all ts)

table_entries-length : (w : List ℕ) (os : List Owned) → length (table_entries w os) ≡ length os
unfolding table_entries
table_entries-length w [] = refl
table_entries-length w (o ∷ os) = ap suc (table_entries-length (after w o.table.rows) os)

pub map_list_length : (n : ℕ) (ms : List Mapped) → length (map_list n ms) ≡ length ms
unfolding map_list
map_list_length n [] = refl
map_list_length n (m ∷ ms) = ap suc (map_list_length (n + length m.entries) ms)

item_list-length : (n : ℕ) (ts : List Template) → length (item_list n ts) ≡ length (flat (λ t. t.items) ts)
unfolding item_list flat
item_list-length n [] = refl
item_list-length n (t ∷ ts) = simp (length-append, length-map, item_list-length (suc n) ts)

owned_tables-length : (n : ℕ) (ps : List Provider) → length (owned_tables n ps) ≡ length (flat (λ p. kept p.elements) ps)
unfolding flat owned_tables
owned_tables-length n [] = refl
owned_tables-length n (p ∷ ps) = simp (length-append, length-map, owned_tables-length (suc n) ps)

owned_unknowns-length : (n : ℕ) (ps : List Provider) → length (owned_unknowns n ps) ≡ length (flat (λ p. unknowns p.elements) ps)
unfolding flat owned_unknowns
owned_unknowns-length n [] = refl
owned_unknowns-length n (p ∷ ps) = simp (length-append, length-map, owned_unknowns-length (suc n) ps)

pub owned_words_length : {B : Type 0} (words : ℕ → B → Entry) (items : Rows → List B) (n : ℕ) (ps : List Provider)
    → length (owned_words words items n ps) ≡ length (flat (of_tables items) ps)
unfolding flat owned_tables
owned_words_length words items n [] = refl
owned_words_length words items n (p ∷ ps) = simp (owned_then words items n p ps, length-append, length-map, owned_words_length words items (suc n) ps)

-- what all have is what is in a row of all of it
pub total-length : {A B : Type 0} (items : A → List B) (vs : List A) → total (λ a. length (items a)) vs ≡ length (flat items vs)
unfolding flat total
total-length items [] = refl
total-length items (a ∷ vs) = rw (length-append, total-length items vs)

-- each list has of all providers what it has of one after the other
pub counted_has : (ps : List Provider) → counted (lists ps) ≡ map (λ f. total f ps) has
counted_has ps =
    rw (lists-itemized ps)
    (simp (length-map, table_entries-length, owned_words_length, map_list_length, owned_tables-length, owned_unknowns-length, total-length (λ (p : Provider). p ∷ []), total-length (λ (p : Provider). p.descriptors), total-length (λ (p : Provider). p.unknown2), total-length (λ (p : Provider). kept p.elements), total-length (λ (p : Provider). unknowns p.elements), total-length (of_tables definitions_in), total-length (of_tables events_in), total-length (of_tables maps_in), total-length (of_tables entries_in), total-length (of_tables templates_in), item_list-length, all_inner (λ (t : Template). t.items) templates_in, total-length (of_tables items_in)))

-- what some providers need, with what is needed before them
unfoldable added : List ℕ → List (Provider → ℕ) → List Provider → List ℕ
added [] fs ps = []
added (n ∷ ns) [] ps = []
added (n ∷ ns) (f ∷ fs) ps = capped (n + total f ps) ∷ added ns fs ps

added_more : (ns : List ℕ) (fs : List (Provider → ℕ)) (p : Provider) (ps : List Provider) → added (plus ns (map (λ f. f p) fs)) fs ps ≡ added ns fs (p ∷ ps)
unfolding added plus total
added_more [] fs p ps = refl
added_more (n ∷ ns) [] p ps = refl
added_more (n ∷ ns) (f ∷ fs) p ps =
    let e : capped (capped (n + f p) + total f ps) ≡ capped (n + (f p + total f ps)) = omega arith in
    rw (e, added_more ns fs p ps)

added_none : (ns : List ℕ) (fs : List (Provider → ℕ)) → modest ns → length ns ≡ length fs → added ns fs [] ≡ ns
unfolding added total
added_none [] fs m h = refl
added_none (n ∷ ns) [] m h = absurd (omega arith)
added_none (n ∷ ns) (f ∷ fs) m h =
    let e : capped (n + 0) ≡ n = omega (arith, m.0) in
    rw (e, added_none ns fs m.1 (omega arith))

pub plus-modest : (ns ms : List ℕ) → modest (plus ns ms)
unfolding plus
plus-modest [] ms = tt
plus-modest (n ∷ ns) [] = tt
plus-modest (n ∷ ns) (m ∷ ms) = (omega arith, plus-modest ns ms)

pub plus-length : (ns ms : List ℕ) → length ns ≡ length ms → length (plus ns ms) ≡ length ns
unfolding plus
plus-length [] ms h = refl
plus-length (n ∷ ns) [] h = absurd (omega arith)
plus-length (n ∷ ns) (m ∷ ms) h = ap suc (plus-length ns ms (omega arith))

needs_added : (ns : List ℕ) (ps : List Provider) → modest ns → length ns ≡ length has → needs_all ns ps ≡ added ns has ps
unfolding needs_all
needs_added ns [] m h = sym (added_none ns has m h)
needs_added ns (p ∷ ps) m h =
    needs_added (plus ns (needs_of p)) ps (plus-modest ns (needs_of p)) (plus-length ns (needs_of p) h ∙ h) ∙ added_more ns has p ps

none-modest : (rs : List Row) → modest (map (λ r. 0) rs)
none-modest [] = tt
none-modest (r ∷ rs) = (omega arith, none-modest rs)

pub needed : (ps : List Provider) → needs_all none ps ≡ map capped (counted (lists ps))
unfolding added
needed ps = needs_added none ps (none-modest rows) refl ∙ zeros ∙ ap (map capped) (sym (counted_has ps))
  where
    zeros : added none has ps ≡ map capped (map (λ f. total f ps) has)
    zeros = simp zero-add
