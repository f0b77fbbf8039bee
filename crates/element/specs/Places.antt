-- Where a provider's elements stand, by kind: one place for each, of two of a kind the last one's.
use Rattle.std.specs.Prelude.{ℕ, zero, suc, ◌+◌, ◌-◌, ◌≤◌, ◌<◌, ◌≡◌, Bool, true, false, length, get_or, set, replicate, eqb, Ok}
use Rattle.std.proofs.Math.Path.{refl, ap, sym}
use Rattle.std.proofs.Common.{ap₂, ◌∙◌, arith, get_or-set_same, get_or-set_other, eqb-true}
use mathlib.Core.List.{List, [], ◌∷◌}
use Rattle.std.proofs.Math.ListN.{length-set}
use Rattle.std.proofs.lemmas.List.{length-replicate, get_or-replicate}
use Rattle.std.proofs.lemmas.Bool.{eqb-false}
use Rattle.blob.specs.Reading.{choose, run, done, verdict, values}
use Rattle.format.specs.Table.{kind_of}
use Rattle.format.specs.Provider.{Table, Element, table, unknown, descriptor_at, element_at, elements_from}
use Rattle.format.specs.Lists.{last_of}
use Rattle.format.specs.Steps.Needs.{place_of}
use Rattle.format.specs.declared.Descriptor.{Descriptor}
use Rattle.element.specs.Tables.{kind-most, is_unknown, is_table}
use Rattle.element.specs.Elements.{last_or, last-table, from-none, next-element, from-values}

-- a number of the last table of each kind, by kind; those of no known kind have the place of kind 0
unfoldable pub noted : (Table → ℕ) → List ℕ → List Element → List ℕ
noted f ns [] = ns
noted f ns (table t ∷ es) = noted f (set ns t.kind (f t)) es
noted f ns (unknown u ∷ es) = noted f (set ns 0 u.offset) es

-- where they stand
abbrev pub placed : List ℕ → List Element → List ℕ
placed ps es = noted (λ t. t.offset) ps es

module _ (f : Table → ℕ) (k : ℕ) where
  stored : (ns : List ℕ) (i n : ℕ) → k < length ns → get_or (set ns i n) k 0 ≡ choose (eqb i k) n (get_or ns k 0)
  stored ns i n h = go (eqb i k) refl
    where
      go : (b : Bool) → eqb i k ≡ b → get_or (set ns i n) k 0 ≡ choose b n (get_or ns k 0)
      go true e = let q = eqb-true i k e in rw q (get_or-set_same ns k n 0 h)
      go false e = get_or-set_other ns i k n 0 (λ q. eqb-false i k e (sym q))

  -- the number of a kind is that of its last table; where there is none, the number before
  pub noted-last : 1 ≤ k → (ns : List ℕ) (es : List Element) → k < length ns → get_or (noted f ns es) k 0 ≡ last_or f (get_or ns k 0) (last_of k es)
  unfolding noted last_of
  noted-last one ns [] h = refl
  noted-last one ns (table t ∷ es) h =
      noted-last one (set ns t.kind (f t)) es (simp length-set h)
      ∙ ap (λ p. last_or f p (last_of k es)) (stored ns t.kind (f t) h)
      ∙ sym (last-table f (get_or ns k 0) k t es)
  noted-last one ns (unknown u ∷ es) h =
      noted-last one (set ns 0 u.offset) es (simp length-set h)
      ∙ ap (λ p. last_or f p (last_of k es)) (get_or-set_other ns 0 k u.offset 0 (λ q. omega arith))

-- where no place was known before
abbrev pub nowhere : List ℕ
nowhere = replicate 9 4294967295

last-place : {k : ℕ} (es : List Element) → 1 ≤ k → k ≤ 8 → get_or (placed nowhere es) k 0 ≡ place_of (last_of k es)
last-place {k} es one most =
    noted-last (λ t. t.offset) k one nowhere es (omega (arith, length-replicate {A = ℕ} 9 4294967295))
    ∙ go (last_of k es) (get_or nowhere k 0) (get_or-replicate {A = ℕ} 9 k 4294967295 0 (omega arith))
  where
    go : (ts : List Table) (p : ℕ) → p ≡ 4294967295 → last_or (λ t. t.offset) p ts ≡ place_of ts
    go [] p e = e
    go (t ∷ ts) p e = refl

pub kind-place : (s : List ℕ) (n at : ℕ) (ps : List ℕ) → ps ≡ placed nowhere (values (run (elements_from n at) s)) → {k : ℕ} → 1 ≤ k → k ≤ 8
    → get_or ps k 0 ≡ place_of (last_of k (values (run (elements_from n at) s)))
kind-place s n at ps e one most = rw e (last-place _ one most)

-- the elements of a known kind: their numbers are those of all, but for kind 0
unfoldable pub known : List Element → List Element
known [] = []
known (table t ∷ es) = table t ∷ known es
known (unknown u ∷ es) = known es

last-known : (k : ℕ) (es : List Element) → last_of k (known es) ≡ last_of k es
unfolding known last_of
last-known k [] = refl
last-known k (table t ∷ es) = rw (last-known k es)
last-known k (unknown u ∷ es) = last-known k es

-- where no number was known before, each kind has that of its last table, or 0
pub noted-known : (f : Table → ℕ) (es : List Element) (k : ℕ) → 1 ≤ k → k ≤ 8 → get_or (noted f (replicate 9 0) (known es)) k 0 ≡ last_or f 0 (last_of k es)
noted-known f es k one most =
    noted-last f k one (replicate 9 0) (known es) (omega (arith, length-replicate {A = ℕ} 9 0))
    ∙ ap₂ (λ n ts. last_or f n ts) (get_or-replicate {A = ℕ} 9 k 0 0 (omega arith)) (last-known k es)

-- each kind has the place of its last table
abbrev pub Standing : List ℕ → List Element → Type 0
Standing ps es = (k : ℕ) → 1 ≤ k → k ≤ 8 → get_or ps k 0 ≡ place_of (last_of k es)

pub standing : (es : List Element) → Standing (placed nowhere (known es)) es
standing es k one most = last-place (known es) one most ∙ ap place_of (last-known k es)

-- the next element takes its kind's place
pub placed_one : (s : List ℕ) (d : Descriptor) (e : Element) → run (element_at d) s ≡ done e → (ps : List ℕ) (es : List Element) (k : ℕ) → kind_of d.signature ≡ k
    → placed ps (e ∷ es) ≡ placed (set ps k d.offset) es
unfolding noted element_at
placed_one s d e i ps es zero p = rw (is_unknown s d.offset e (rw p at i)).0
placed_one s d e i ps es (suc n) p =
    let t = is_table s (suc n) d.offset e (omega arith) (rw p at (kind-most d.signature)) (rw p at i) in
    rw (t.1, t.3.kind, t.2)

module _ (s : List ℕ) (left at : ℕ) (h : 0 < left) (d : Descriptor) (found : run (descriptor_at at) s ≡ done d) (v : verdict (run (elements_from left at) s) ≡ Ok tt) where
  pub placed-more : (ps : List ℕ) (k : ℕ) → k ≡ kind_of d.signature
      → placed ps (values (run (elements_from left at) s)) ≡ placed (set ps k d.offset) (values (run (elements_from (left - 1) (at + 8)) s))
  placed-more ps k q =
      let e = next-element s left at h d found v in
      ap (placed ps) (from-values s left at h d found v) ∙ placed_one s d e.0 e.1 ps _ k (sym q)

pub placed-none : (s : List ℕ) (left at : ℕ) (ps : List ℕ) → left ≤ 0 → placed ps (values (run (elements_from left at) s)) ≡ ps
unfolding noted
placed-none s left at ps h = ap (λ o. placed ps (values o)) (from-none s left at h)
