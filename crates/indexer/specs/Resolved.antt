-- The events with a found template: those that are left to their owners.
use Rattle.std.specs.Prelude.{ℕ, ◌+◌, ◌*◌, ◌≤◌, ◌<◌, ◌≡◌, Bool, not, ◌&&◌, length, take, eqb, ltb}
use Rattle.std.proofs.Math.Path.{refl, ap, ap₂, sym}
use Rattle.std.proofs.Common.{◌∙◌, add-one, arith}
use Rattle.std.proofs.Math.Bool.{true, false}
use mathlib.Core.List.{List, [], ◌∷◌, ◌++◌, map}
use Rattle.std.proofs.Math.ListN.{get_or, set, length-set}
use Rattle.std.proofs.Math.Seq.{get_or-set_same, get_or-set_other}
use borrow.Author.Tests.{eqb-true, ne_eqb, ltb-true}
use Rattle.blob.specs.Reading.{choose}
use Rattle.blob.proofs.Laws.{both}
use Rattle.blob.specs.Laid.{flat}
use Rattle.format.specs.Area.{PROVIDERS, TABLES, EVENTS, TEMPLATES, rows, place, width, of}
use Rattle.format.specs.Table.{TTBL}
use Rattle.format.specs.Lists.{Entry}
use Rattle.format.specs.Answer.{areas}
use Rattle.format.specs.Entry.{TABLE_PROVIDER, TABLE_KIND, EVENT_TEMPLATE}
use Rattle.format.specs.Join.{those, some}
use Rattle.format.specs.Lookup.{entries_of, word_of, select, every, table_fits, tables_fit, range_of, owned_by}
use Rattle.format.specs.Owner.{finds, owners_of, found_from}
use Rattle.number.proofs.Scan.{untrue}
use Rattle.lists.specs.Entries.{rest, rest_all, rest_more, rest_none}
use Rattle.lists.specs.Fit.{inside}
use Rattle.lists.specs.Found.{entries, few, owned, Fit}
use Rattle.lists.specs.Owners.{NOBODY}
use Rattle.lists.specs.Tables.{owned-entries}
use Rattle.indexer.specs.Listed.{event_at, finds_in, resolved_from, resolved, mine, listed_from}

-- with nobody's for those of so many events that have no found template, from one on, by its number
module _ (words capacities counts : List ℕ) (n at : ℕ) where
  abbrev pub resolved_left : List ℕ → ℕ → List ℕ
  resolved_left owners i =
      resolved_from (entries_of words capacities counts TABLES) (entries_of words capacities counts TEMPLATES) owners i (rest (width EVENTS) words n at i)

module _ (words capacities counts owners : List ℕ) where
  pub resolved-all : resolved_left words capacities counts (of EVENTS counts) (areas rows (take (place EVENTS) capacities)) owners 0 ≡ resolved words capacities counts owners
  resolved-all =
      ap (resolved_from (entries_of words capacities counts TABLES) (entries_of words capacities counts TEMPLATES) owners 0) (rest_all (width EVENTS) words (of EVENTS counts) (areas rows (take (place EVENTS) capacities)))

-- over lists that fit together
module _ (words capacities counts : List ℕ) (f : Fit words capacities counts) (t : tables_fit counts (entries_of words capacities counts TABLES) ≡ true) where
  abbrev tables : List Entry
  tables = entries_of words capacities counts TABLES

  abbrev templates : List Entry
  templates = entries_of words capacities counts TEMPLATES

  -- a provider's templates stand in the words
  pub templates-few : (p : ℕ) → few (width TEMPLATES) (owned words capacities counts p TTBL) words
  templates-few p =
      let i = inside words capacities counts f (place TEMPLATES) in
      let o = owned-entries words capacities counts TEMPLATES TTBL refl p tables t in
      (omega (arith, i.0, o.begins, o.within), omega (arith, i.1, o.within))

  -- the next of them is left to its owner or to nobody, or none is left
  module _ (n at : ℕ) where
    pub resolved-more : (owners owners' : List ℕ) (i : ℕ) → i < n
        → owners' ≡ set owners i (choose (finds_in (entries (width TEMPLATES) (owned words capacities counts (get_or owners i 0) TTBL) words) (event_at words (at + width EVENTS * i))) (get_or owners i 0) NOBODY)
        → resolved_left words capacities counts n at owners i ≡ resolved_left words capacities counts n at owners' (i + 1)
    unfolding resolved_from
    resolved-more owners owners' i h e =
        let p = get_or owners i 0 in
        let g = ap (λ (ts : List Entry). finds_in ts (event_at words (at + width EVENTS * i))) (owned-entries words capacities counts TEMPLATES TTBL refl p tables t).equal in
        ap (resolved_from tables templates owners i) (rest_more (width EVENTS) words n at i h)
        ∙ ap (λ (os : List ℕ). resolved_left words capacities counts n at os (i + 1)) (ap (λ b. set owners i (choose b p NOBODY)) g ∙ sym e)

    pub resolved-none : (owners : List ℕ) (i : ℕ) → n ≤ i → resolved_left words capacities counts n at owners i ≡ owners
    unfolding resolved_from
    resolved-none owners i h = ap (resolved_from tables templates owners i) (rest_none (width EVENTS) words n at i h)

-- a provider that has a template has a number
module _ (counts : List ℕ) (p : ℕ) (q : Entry → Bool) (es : List Entry) where
  abbrev mine_of : Entry → Bool
  mine_of t = eqb (word_of TABLE_PROVIDER t) p && eqb (word_of TABLE_KIND t) TTBL

  has-number : (tables : List Entry) → tables_fit counts tables ≡ true → some q (owned_by tables p TTBL es) ≡ true → p < of PROVIDERS counts
  unfolding some flat select every
  has-number [] f h = untrue h
  has-number (t ∷ ts) f h = let b = both (table_fits counts t) _ f in go (mine_of t) refl b.0 h (has-number ts b.1)
    where
      go : (b : Bool) → mine_of t ≡ b → table_fits counts t ≡ true → some q (flat (range_of es) (take 1 (choose b (t ∷ select mine_of ts) (select mine_of ts)))) ≡ true
          → (some q (owned_by ts p TTBL es) ≡ true → p < of PROVIDERS counts) → p < of PROVIDERS counts
      go true e f h ih =
          let k = eqb-true (word_of TABLE_PROVIDER t) p (both (eqb (word_of TABLE_PROVIDER t) p) _ e).0 in
          omega (arith, k, ltb-true (word_of TABLE_PROVIDER t) (of PROVIDERS counts) (both (ltb (word_of TABLE_PROVIDER t) (of PROVIDERS counts)) _ f).0)
      go false e f h ih = ih h

-- What is left to its owner is what has a found template.
module _ (counts : List ℕ) (tables templates : List Entry) (t : tables_fit counts tables ≡ true) (m : of PROVIDERS counts ≤ NOBODY) where
  -- an event before those that are left keeps its owner
  before_kept : (owners : List ℕ) (i j : ℕ) (es : List Entry) → j < i → get_or (resolved_from tables templates owners i es) j 0 ≡ get_or owners j 0
  unfolding resolved_from
  before_kept owners i j [] h = refl
  before_kept owners i j (e ∷ es) h =
      let w = choose (finds tables templates e (get_or owners i 0)) (get_or owners i 0) NOBODY in
      before_kept (set owners i w) (i + 1) j es (omega arith) ∙ get_or-set_other owners i j w 0 (λ x. omega arith)

  left-found : (e : Entry) (p : ℕ) → mine (choose (finds tables templates e p) p NOBODY) e ≡ map (λ q. q ∷ e) (choose (finds tables templates e p) (p ∷ []) [])
  left-found e p = go (finds tables templates e p) refl
    where
      go : (b : Bool) → finds tables templates e p ≡ b → mine (choose b p NOBODY) e ≡ map (λ q. q ∷ e) (choose b (p ∷ []) [])
      go true h =
          let s = (both (not (eqb (word_of EVENT_TEMPLATE e) 0)) _ h).1 in
          let l = has-number counts p _ templates tables t s in
          rw (ne_eqb p NOBODY (λ x. omega arith))
      go false h = refl

  pub found-listed : (owners : List ℕ) (i : ℕ) (es : List Entry) → i + length es ≤ length owners → ((j : ℕ) → i ≤ j → j < i + length es → owners_of tables j ≡ get_or owners j 0 ∷ [])
      → listed_from (resolved_from tables templates owners i es) i es ≡ found_from tables templates i es
  unfolding listed_from resolved_from found_from those
  found-listed owners i [] l h = refl
  found-listed owners i (e ∷ es) l h =
      let p = get_or owners i 0 in
      let w = choose (finds tables templates e p) p NOBODY in
      let owners' = set owners i w in
      let k = before_kept owners' (i + 1) i es (omega arith) ∙ get_or-set_same owners i w 0 (omega arith) in
      let ih = found-listed owners' (i + 1) es (omega (arith, length-set owners i w)) (λ j a b. h j (omega arith) (omega arith) ∙ ap (λ x. x ∷ []) (sym (get_or-set_other owners i j w 0 (λ x. omega arith)))) in
      ap₂ (λ (x y : List Entry). x ++ y)
      (ap (λ x. mine x e) k ∙ left-found e p ∙ ap (λ (ps : List ℕ). map (λ q. q ∷ e) (those (finds tables templates e) ps)) (sym (h i (omega arith) (omega arith))))
      (ih ∙ ap (λ n. found_from tables templates n es) (add-one i))
