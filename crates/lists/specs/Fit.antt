-- Counts that fit their capacities, and capacities that fit the lent words: each list's entries stand in the words.
use Prim.{Unit, tt}
use Rattle.std.specs.Prelude.{Result, Ok, Err, is_ok, ℕ, zero, suc, ◌+◌, ◌*◌, ◌≤◌, ◌≡◌, refl, Bool, true, false, ◌&&◌, List, [], ◌∷◌, map, length, get_or, take, leb}
use Rattle.std.proofs.Common.{ap, add-zero, zero-add, mul_comm, mul-le-mul, mul-zero, zero-mul, arith, leb-true}
use Rattle.std.proofs.Math.Seq.{take-nil}
use Rattle.blob.specs.Reading.{choose}
use Rattle.blob.proofs.Laws.{both}
use Rattle.blob.specs.declared.Refusal.{Refusal}
use Rattle.format.specs.Area.{TABLES, TEMPLATES, Row, rows}
use Rattle.format.specs.Lists.{Entry}
use Rattle.format.specs.Answer.{own, too_small, moderate, areas, lent_enough}
use Rattle.format.specs.Lookup.{entries_from, entries_of, counts_fit, tables_fit, tables_own}
use Rattle.counts.specs.Short.{short, widths}
use Rattle.lists.specs.Found.{entries, few, run_of, tables_hold, fitting, fit, fit_together, Fit}

-- the refusal of a test
abbrev refusal : Result Unit Refusal → Refusal
refusal (Ok u) = own 0
refusal (Err r) = r

-- what an answer tells of the tests, and of an answer by the same tests or by one more
fine-both : (a b : Bool) → fitting a b ≡ Ok tt → (a ≡ true) × (b ≡ true)
fine-both true true e = (refl, refl)
fine-both true false e = absurd (cc)
fine-both false b e = absurd (cc)

pub refused_as : {A : Type 0} (f : Refusal → A) (x : A) (a b : Bool) (r : Refusal) → fitting a b ≡ Err r → choose a (choose b x (f (own 10))) (f (own 8)) ≡ f r
refused_as f x true true r e = absurd (cc)
refused_as f x true false r e = ap (λ v. f (refusal v)) e
refused_as f x false b r e = ap (λ v. f (refusal v)) e

pub refused-further : (a b d : Bool) (r : Refusal) → fitting a b ≡ Err r → fitting a (b && d) ≡ Err r
refused-further true true d r e = absurd (cc)
refused-further true false d r e = e
refused-further false b d r e = e

module _ (words capacities counts : List ℕ) where
  pub fits : fit words capacities counts ≡ Ok tt → Fit words capacities counts
  fits e = fine-both (lent_enough capacities words) (counts_fit counts capacities) e

  abbrev tables : List Entry
  tables = entries_of words capacities counts TABLES

  abbrev templates : List Entry
  templates = entries_of words capacities counts TEMPLATES

  pub fits_together : fit_together words capacities counts ≡ Ok tt → (Fit words capacities counts × (tables_fit counts tables ≡ true)) × (tables_own templates tables ≡ true)
  fits_together e =
      let h = fine-both (lent_enough capacities words) (counts_fit counts capacities && tables_hold counts templates tables) e in
      let b = both (counts_fit counts capacities) _ h.1 in
      let t = both (tables_fit counts tables) _ b.1 in
      (((h.0, b.0), t.0), t.1)

-- no list is too short for its count
pub room_fits : (rs : List Row) (ns cs : List ℕ) → length ns ≡ length cs → length cs ≡ length rs → is_ok (short rs cs ns) ≡ counts_fit ns cs
unfolding short counts_fit
room_fits [] [] [] h g = refl
room_fits [] [] (c ∷ cs) h g = absurd (omega arith)
room_fits [] (k ∷ ns) cs h g = absurd (omega arith)
room_fits (r ∷ rs) ns [] h g = absurd (omega arith)
room_fits (r ∷ rs) [] (c ∷ cs) h g = absurd (omega arith)
room_fits (r ∷ rs) (k ∷ ns) (c ∷ cs) h g = go (leb k c) (room_fits rs ns cs (omega arith) (omega arith))
  where
    go : (t : Bool) → is_ok (short rs cs ns) ≡ counts_fit ns cs
        → is_ok (choose t (short rs cs ns) (Err (too_small r.number c))) ≡ (t && counts_fit ns cs)
    go true ih = ih
    go false ih = refl

-- a list's entries end in its area
area_holds : (rs : List Row) (ns cs : List ℕ) → counts_fit ns cs ≡ true → (i : ℕ) → areas rs (take i cs) + get_or (map (λ r. r.words) rs) i 0 * get_or ns i 0 ≤ areas rs cs
unfolding areas counts_fit
area_holds rs [] [] e i = rw take-nil (simp mul-zero (omega arith))
area_holds rs (n ∷ ns) [] e i = absurd (let z : ◌≡◌ {A = ℕ} 0 1 = cc in omega arith)
area_holds [] ns (c ∷ cs) e zero = simp zero-mul (omega arith)
area_holds [] ns (c ∷ cs) e (suc i) = simp zero-mul (omega arith)
area_holds (r ∷ rs) [] (c ∷ cs) e zero = simp mul-zero (omega arith)
area_holds (r ∷ rs) [] (c ∷ cs) e (suc i) = omega (arith, area_holds rs [] cs e i)
area_holds (r ∷ rs) (n ∷ ns) (c ∷ cs) e zero =
    let b = both (leb n c) _ e in
    let k : r.words ≤ r.words = omega arith in
    omega (arith, mul_comm r.words n, mul-le-mul (leb-true n c b.0) k)
area_holds (r ∷ rs) (n ∷ ns) (c ∷ cs) e (suc i) = omega (arith, area_holds rs ns cs (both (leb n c) _ e).1 i)

-- a count is at most 65,536
count_most : (ns cs : List ℕ) → counts_fit ns cs ≡ true → moderate cs ≡ true → (i : ℕ) → get_or ns i 0 ≤ 65536
unfolding counts_fit moderate
count_most [] cs e m i = omega arith
count_most (n ∷ ns) [] e m i = absurd (let z : ◌≡◌ {A = ℕ} 0 1 = cc in omega arith)
count_most (n ∷ ns) (c ∷ cs) e m zero = omega (arith, leb-true n c (both (leb n c) _ e).0, leb-true c 65536 (both (leb c 65536) _ m).0)
count_most (n ∷ ns) (c ∷ cs) e m (suc i) = count_most ns cs (both (leb n c) _ e).1 (both (leb c 65536) _ m).1 i

-- a whole list stands in the words, and its entries are those of the list
module _ (words capacities counts : List ℕ) where
  pub inside : Fit words capacities counts → (row : ℕ)
      → (areas rows (take row capacities) + get_or widths row 0 * get_or counts row 0 ≤ length words) × (get_or counts row 0 ≤ 65536)
  inside f row =
      let b = both (moderate capacities) _ f.0 in
      (omega (arith, leb-true (areas rows capacities) (length words) b.1, area_holds rows counts capacities f.1 row), count_most counts capacities f.1 b.0 row)

  pub whole-few : Fit words capacities counts → (row : ℕ) → few (get_or widths row 0) (run_of capacities counts row) words
  whole-few f row = rw zero-add (inside f row)

  pub whole-entries : (row : ℕ) → entries (get_or widths row 0) (run_of capacities counts row) words ≡ entries_from (get_or widths row 0) (get_or counts row 0) (areas rows (take row capacities)) words
  whole-entries row = simp (mul-zero, add-zero)
