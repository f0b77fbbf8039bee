-- The tables of a provider, and what they have in the lists.
use Rattle.std.specs.Prelude.{Some, None, ℕ, ◌+◌, ◌*◌, ◌-◌, ◌≤◌, ◌<◌, ◌≡◌, Bool, ◌&&◌, get_or, take, drop, leb, ltb}
use Rattle.std.proofs.Math.Path.{refl}
use Rattle.std.proofs.Common.{ap, sym, ◌∙◌, eqb-true, leb-true}
use Rattle.std.proofs.Math.Bool.{true, false}
use mathlib.Core.List.{List, [], ◌∷◌, append-nil}
use native.Mathlib.Omega.{arith}
use Rattle.std.proofs.Math.Dec.{eqb}
use Rattle.blob.specs.Reading.{choose}
use Rattle.blob.proofs.Laws.{both}
use Rattle.blob.specs.Laid.{flat}
use Rattle.format.specs.Area.{PROVIDERS, TABLES, TEMPLATES, rows, place, width, of}
use Rattle.format.specs.Entry.{TABLE_PROVIDER, TABLE_KIND, TABLE_FIRST, TABLE_COUNT}
use Rattle.format.specs.Table.{kind_list}
use Rattle.format.specs.Answer.{areas}
use Rattle.format.specs.Lists.{Entry}
use Rattle.format.specs.Lookup.{entries_from, entries_of, word_of, select, position, every, table_fits, tables_fit, range_of}
use Rattle.lists.specs.declared.Run.{Run}
use Rattle.lists.specs.Entries.{part-entries, entry, entries-length}
use Rattle.lists.specs.Found.{entries, few, run_of, has, found, Fit, table_of, range_in}
use Rattle.lists.specs.Fit.{inside, whole-entries}
use Rattle.lists.specs.Search.{position-same, has-two, position-found, select-found, select-none}

-- a TTBL's range of all templates, as a run
module _ (words : List ℕ) (templates : Run) (z : templates.first ≡ 0) (t : Entry) (h : word_of TABLE_FIRST t + word_of TABLE_COUNT t ≤ templates.count) where
  pub range-few : few (width TEMPLATES) templates words → few (width TEMPLATES) (range_in templates.start (t ∷ [])) words
  range-few f = (omega arith, omega arith)

  pub range-entries : range_of (entries (width TEMPLATES) templates words) t ≡ entries (width TEMPLATES) (range_in templates.start (t ∷ [])) words
  range-entries =
      let s : templates.start + width TEMPLATES * templates.first ≡ templates.start = omega arith in
      part-entries (width TEMPLATES) words (word_of TABLE_FIRST t) (word_of TABLE_COUNT t) templates.count (templates.start + width TEMPLATES * templates.first) h
      ∙ ap (λ a. entries_from (width TEMPLATES) (word_of TABLE_COUNT t) (a + width TEMPLATES * word_of TABLE_FIRST t) words) s

-- a provider's first table of a kind, by the number that is found
module _ (words capacities counts : List ℕ) (f : Fit words capacities counts) (provider kind : ℕ) where
  abbrev tables : List Entry
  tables = entries (width TABLES) (run_of capacities counts (place TABLES)) words

  abbrev searched : List ℕ
  searched = position (has TABLE_PROVIDER (provider ∷ kind ∷ [])) 0 tables

  abbrev p : Entry → Bool
  p t = eqb (word_of TABLE_PROVIDER t) provider && eqb (word_of TABLE_KIND t) kind

  table-position : searched ≡ position p 0 (entries_of words capacities counts TABLES)
  table-position =
      ap (position (has TABLE_PROVIDER (provider ∷ kind ∷ [])) 0) (whole-entries words capacities counts (place TABLES))
      ∙ position-same _ _ words (width TABLES) (of TABLES counts) (areas rows (take (place TABLES) capacities)) 0 (inside words capacities counts f (place TABLES)).0
      (λ e l. has-two TABLE_PROVIDER provider kind e (omega arith))

  pub table_none : found searched ≡ None → table_of provider kind (entries_of words capacities counts TABLES) ≡ []
  table_none e = ap (take 1) (select-none p 0 (entries_of words capacities counts TABLES) (ap found (sym table-position) ∙ e))

  pub table-found : (n : ℕ) → found searched ≡ Some n
      → (table_of provider kind (entries_of words capacities counts TABLES)
      ≡ take (width TABLES) (drop (areas rows (take (place TABLES) capacities) + width TABLES * n) words) ∷ []) × (n < of TABLES counts)
  table-found n e =
      let start = areas rows (take (place TABLES) capacities) in
      let g = ap found (sym table-position) ∙ e in
      let l : n < of TABLES counts = omega (arith, (position-found p 0 (entries_of words capacities counts TABLES) n g).2, entries-length (width TABLES) words (of TABLES counts) start) in
      let z : n - 0 ≡ n = omega arith in (
        select-found p 0 (entries_of words capacities counts TABLES) n g
            ∙ ap (λ (x : Entry). x ∷ []) (ap (λ i. get_or (entries_of words capacities counts TABLES) i []) z ∙ entry (width TABLES) words n (of TABLES counts) start l),
        l,
      )

-- The entries that a provider's table of a kind has are a run of the kind's list.
module _ (words capacities counts : List ℕ) (l kind : ℕ) (k : kind_list kind ≡ l) where
  pub record Owned (ts : List Entry) : Type 0 where
    pub equal : flat (range_of (entries_of words capacities counts l)) ts
        ≡ entries (width l) (range_in (areas rows (take (place l) capacities)) ts) words
    pub begins : (range_in (areas rows (take (place l) capacities)) ts).start ≡ areas rows (take (place l) capacities)
    pub within : (range_in (areas rows (take (place l) capacities)) ts).first + (range_in (areas rows (take (place l) capacities)) ts).count ≤ of l counts

  none_owned : Owned []
  unfolding flat entries_from
  none_owned = record { equal = refl; begins = refl; within = omega arith }

  one-owned : (t : Entry) → word_of TABLE_FIRST t + word_of TABLE_COUNT t ≤ of l counts → Owned (t ∷ [])
  unfolding flat
  one-owned t h =
      record {
        equal = append-nil _ ∙ part-entries (width l) words (word_of TABLE_FIRST t) (word_of TABLE_COUNT t) (of l counts) (areas rows (take (place l) capacities)) h;
        begins = refl;
        within = h;
      }

  -- a table that fits has a range of its list
  pub fits_range : (t : Entry) → table_fits counts t ≡ true → word_of TABLE_KIND t ≡ kind → word_of TABLE_FIRST t + word_of TABLE_COUNT t ≤ of l counts
  fits_range t e g =
      let a = (both (ltb (word_of TABLE_PROVIDER t) (of PROVIDERS counts)) _ e).1 in
      let b = (both (leb 1 (word_of TABLE_KIND t)) _ a).1 in
      let d = (both (leb (word_of TABLE_KIND t) 8) _ b).1 in
      let h = leb-true (word_of TABLE_FIRST t + word_of TABLE_COUNT t) (of (kind_list (word_of TABLE_KIND t)) counts) d in
      rw (← k, ← g) h

  pub owned-entries : (provider : ℕ) (tables : List Entry) → tables_fit counts tables ≡ true → Owned (table_of provider kind tables)
  unfolding select every
  owned-entries provider [] fit = none_owned
  owned-entries provider (t ∷ ts) fit =
      let h = both (table_fits counts t) _ fit in
      go (eqb (word_of TABLE_PROVIDER t) provider && eqb (word_of TABLE_KIND t) kind) refl h.0 (owned-entries provider ts h.1)
    where
      go : (b : Bool) → (eqb (word_of TABLE_PROVIDER t) provider && eqb (word_of TABLE_KIND t) kind) ≡ b → table_fits counts t ≡ true → Owned (table_of provider kind ts)
          → Owned (take 1 (choose b (t ∷ select (λ t. eqb (word_of TABLE_PROVIDER t) provider && eqb (word_of TABLE_KIND t) kind) ts) (select (λ t. eqb (word_of TABLE_PROVIDER t) provider && eqb (word_of TABLE_KIND t) kind) ts)))
      go true e fit ih = one-owned t (fits_range t fit (eqb-true (word_of TABLE_KIND t) kind (both (eqb (word_of TABLE_PROVIDER t) provider) _ e).1))
      go false e fit ih = ih
