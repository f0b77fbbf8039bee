-- How many tables are kept and how many entries they have, kind by kind, where each number stops rising.
use Rattle.std.specs.Prelude.{ℕ, zero, suc, ◌+◌, ◌-◌, ◌≤◌, ◌<◌, ◌≡◌, refl, length, get_or, set, Ok}
use Rattle.std.proofs.Math.Path.{ap, sym}
use Rattle.std.proofs.Common.{ap₂, ◌∙◌, arith}
use mathlib.Core.List.{List, [], ◌∷◌, ◌++◌, map}
use Rattle.blob.specs.Le.{le}
use Rattle.blob.specs.Reading.{run, verdict, values}
use Rattle.format.specs.Table.{kind_list}
use Rattle.format.specs.Provider.{Table, Element, elements_from}
use Rattle.format.specs.Lists.{last_of, list_of, row_count, after}
use Rattle.format.specs.Answer.{capped}
use Rattle.format.specs.Steps.Needs.{grown, after_all, place_of}
use Rattle.format.specs.declared.Header.{Header}
use Rattle.element.specs.Kinds.{kept_from, kept_more, kept_here, kept-nowhere}

-- what is counted with some more tables
unfoldable pub grown_all : List ℕ → List Table → List ℕ
grown_all ns [] = ns
grown_all ns (t ∷ ts) = grown_all (grown (list_of t.rows) (row_count t.rows) ns) ts

-- it is what they have, as far as anyone asks
capped-set : (ns : List ℕ) (i n : ℕ) → set (map capped ns) i (capped (get_or (map capped ns) i 0 + n)) ≡ map capped (set ns i (get_or ns i 0 + n))
capped-set [] i n = refl
capped-set (m ∷ ns) zero n = let e : capped (capped m + n) ≡ capped (m + n) = omega arith in rw e
capped-set (m ∷ ns) (suc i) n = ap (λ (l : List ℕ). capped m ∷ l) (capped-set ns i n)

pub grown-all : (ns : List ℕ) (ts : List Table) → grown_all (map capped ns) ts ≡ map capped (after_all ns ts)
unfolding grown_all after_all
grown-all ns [] = refl
grown-all ns (t ∷ ts) = rw (capped-set ns _ (row_count t.rows)) (grown-all (after ns t.rows) ts)

-- What the kept tables that are left have, with those before: the next kind's table, or none.
module _ (s : List ℕ) (n at k : ℕ) (v : verdict (run (elements_from n at) s) ≡ Ok tt) (place : ℕ) (p : place ≡ place_of (last_of k (values (run (elements_from n at) s)))) where
  abbrev es : List Element
  es = values (run (elements_from n at) s)

  module _ (ns : List ℕ) (left : ℕ) (more : 0 < left) where
    module _ (h : place ≡ 4294967295 → ⊥) where
      here : kept_from es left k ≡ (kept_here s n at k v place p h).0 ∷ kept_from es (left - 1) (k + 1)
      here = let t = kept_here s n at k v place p h in kept_more es left k more ∙ ap (λ (l : List Table). l ++ kept_from es (left - 1) (k + 1)) t.1

      pub count-here : 1 ≤ k → k ≤ 8 → (x : ℕ) → x ≡ le 4 s (place + 8) → (to : List ℕ) → to ≡ grown (kind_list k) x ns
          → grown_all ns (kept_from es left k) ≡ grown_all to (kept_from es (left - 1) (k + 1))
      unfolding grown_all
      count-here a b x ex to et =
          let t = kept_here s n at k v place p h in
          let c : t.3.header.count ≡ x = ap (λ (g : Header). g.count) t.3.words ∙ ap (λ o. le 4 s (o + 8)) t.2 ∙ sym ex in
          ap (grown_all ns) here
          ∙ ap (λ (ms : List ℕ). grown_all ms (kept_from es (left - 1) (k + 1))) (ap₂ (λ l m. grown l m ns) (t.3.told.list a b) (t.3.told.count ∙ c) ∙ sym et)

      pub tables-here : length (kept_from es left k) ≡ suc (length (kept_from es (left - 1) (k + 1)))
      tables-here = ap (λ (l : List Table). length l) here

    module _ (l : length s ≤ 16777216) (h : place ≡ 4294967295) where
      pub none_here : kept_from es left k ≡ kept_from es (left - 1) (k + 1)
      none_here = kept_more es left k more ∙ ap (λ (ts : List Table). ts ++ kept_from es (left - 1) (k + 1)) (kept-nowhere s n at k v place p l h)
