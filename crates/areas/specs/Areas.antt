-- The providers of a block, and that each list's entries fit its area.
use Rattle.std.specs.Prelude.{ℕ, zero, suc, ◌+◌, ◌*◌, ◌≤◌, ◌<◌, ◌≡◌, true, length, drop, leb}
use Rattle.std.proofs.Math.Path.{refl, sym}
use Rattle.std.proofs.Common.{ap, ap₂, ◌∙◌, mul-le-mul, mul_comm, arith, drop_of_length-le, leb-true}
use mathlib.Core.List.{List, [], ◌∷◌}
use Rattle.std.proofs.Math.ListN.{get_or, get_or-map}
use Rattle.blob.specs.Reading.{Reading, done, run, many, values}
use Rattle.blob.specs.Laid.{laid, flat}
use Rattle.blob.proofs.Laws.{both, choose-done}
use Rattle.format.specs.Area.{Row, rows, AREAS, none}
use Rattle.format.specs.Definition.{step}
use Rattle.format.specs.Provider.{Provider}
use Rattle.format.specs.Crim.{described_at}
use Rattle.format.specs.Lists.{Entry, lists}
use Rattle.format.specs.Answer.{moderate, areas, lent_enough, with_room, counted, filled, capped}
use Rattle.format.specs.Steps.Needs.{needs_all}
use Rattle.format.proofs.Theorems.Needed.{needed}
use Rattle.format.specs.Steps.Parts as parts
use Rattle.format.proofs.Theorems.Fits.{parts-wide, list-few}
use Rattle.format.proofs.Theorems.Listed.{listed}
use Rattle.counts.specs.Short.{widths, numbers, drop_more}

-- n providers, and what is read of them
abbrev pub providers : ℕ → Reading (List Provider)
providers n = many described_at (step 20) n 16

abbrev pub providers_in : ℕ → List ℕ → List Provider
providers_in n s = values (run (providers n) s)

-- each list has room for its entries
abbrev pub roomy : List ℕ → List Provider → Type 0
roomy cs ps = with_room {A = ℕ} rows cs (lists ps) 0 ≡ done 0

-- a list among those that have room
pub list-fits : {A : Type 0} (rs : List Row) (cs : List ℕ) (ls : List (List Entry)) (a b : A) → with_room rs cs ls a ≡ done b
    → (i : ℕ) → i < length rs → i < length cs → length (get_or ls i []) ≤ get_or cs i 0
unfolding with_room
list-fits [] cs ls a b e i h g = absurd (omega arith)
list-fits (r ∷ rs) [] ls a b e i h g = absurd (omega arith)
list-fits (r ∷ rs) (c ∷ cs) [] a b e i h g = omega arith
list-fits (r ∷ rs) (c ∷ cs) (l ∷ ls) a b e zero h g = leb-true _ _ (choose-done (leb (length l) c) _ _ b e).0
list-fits (r ∷ rs) (c ∷ cs) (l ∷ ls) a b e (suc i) h g = list-fits rs cs ls a b (choose-done (leb (length l) c) _ _ b e).1 i (omega arith) (omega arith)

-- no list that has room in moderate capacities has more entries than one can be
few-from : (rs : List Row) (cs : List ℕ) (ls : List (List Entry)) (a b : ℕ) → with_room rs cs ls a ≡ done b → moderate cs ≡ true
    → length ls ≤ length rs → length ls ≤ length cs → parts.Few (counted ls)
unfolding with_room moderate
few-from rs cs [] a b e m h g i = omega arith
few-from [] cs (l ∷ ls) a b e m h g i = absurd (omega arith)
few-from (r ∷ rs) [] (l ∷ ls) a b e m h g i = absurd (omega arith)
few-from (r ∷ rs) (c ∷ cs) (l ∷ ls) a b e m h g zero =
    omega (arith, leb-true (length l) c (choose-done (leb (length l) c) _ _ b e).0, leb-true c 65536 (both _ _ m).0)
few-from (r ∷ rs) (c ∷ cs) (l ∷ ls) a b e m h g (suc i) =
    few-from rs cs ls a b (choose-done (leb (length l) c) _ _ b e).1 (both (leb c 65536) _ m).1 (omega arith) (omega arith) i

-- lent words and capacities that will do
pub lent_both : (cs words : List ℕ) → lent_enough cs words ≡ true → (moderate cs ≡ true) × (areas rows cs ≤ length words)
lent_both cs words e = let b = both (moderate cs) _ e in (b.0, leb-true _ _ b.1)

module _ (cs : List ℕ) (cs-rows : length cs ≡ AREAS) (ps : List Provider) where
  all-lists : length (lists ps) ≡ AREAS
  unfolding lists
  all-lists = refl

  module _ (m : moderate cs ≡ true) (r : roomy cs ps) where
    pub few : parts.Few (counted (lists ps))
    few = few-from rows cs (lists ps) 0 0 r m (omega (arith, all-lists)) (omega (arith, all-lists))

    -- so each list's words fit its area, and what is written behind them in each list is few
    pub area_fits : (i : ℕ) → i < AREAS → (length (parts.parts (get_or numbers i 0) 0 none ps) ≤ get_or cs i 0 * get_or widths i 0) × parts.Counted (parts.passed_all (get_or numbers i 0) none ps)
    area_fits i h =
        let k = list-fits {A = ℕ} rows cs (lists ps) 0 0 r i h (omega arith) in
        let w : get_or widths i 0 ≤ get_or widths i 0 = omega arith in
        let x = mul-le-mul k w in
        (omega (arith, parts-wide ps i h, x, mul_comm (get_or widths i 0) (length (get_or (lists ps) i []))), list-few ps few i h)

  -- the words once the lists of the rows behind so many are laid too
  abbrev pub filled_from : ℕ → List ℕ → ℕ → List ℕ
  filled_from i words at = filled words at (drop i rows) (drop i cs) (drop i (lists ps))

  pub fill_step : (i : ℕ) → i < AREAS → (words words' : List ℕ) (at at' : ℕ) → words' ≡ laid words at (parts.parts (get_or numbers i 0) 0 none ps)
      → at' ≡ at + get_or cs i 0 * get_or widths i 0 → filled_from i words at ≡ filled_from (i + 1) words' at'
  unfolding filled
  fill_step i h words words' at at' g t =
      let d : Row = record { number = 0; words = 0 } in
      rw (drop_more d rows i (omega arith), drop_more 0 cs i (omega arith), drop_more [] (lists ps) i (omega (arith, all-lists)))
      (ap₂ (λ (x : List ℕ) n. filled x n (drop (i + 1) rows) (drop (i + 1) cs) (drop (i + 1) (lists ps))) (ap (laid words at) (listed ps i h) ∙ sym g)
      (ap (λ w. at + get_or cs i 0 * w) (sym (get_or-map (λ (r : Row). r.words) rows i d)) ∙ sym t))

  pub fill_end : (i : ℕ) → AREAS ≤ i → (words : List ℕ) (at : ℕ) → filled_from i words at ≡ words
  unfolding filled
  fill_end i h words at = rw (drop_of_length-le rows {i = i} (omega arith))

-- a list that needs nothing has no words
no-entries : (l : List Entry) → capped (length l) ≡ 0 → l ≡ []
no-entries [] e = refl
no-entries (x ∷ l) e = absurd (omega arith)

pub no_words : (ps : List Provider) (needs : List ℕ) → needs ≡ needs_all none ps → (i : ℕ) → i < AREAS → get_or needs i 0 ≡ 0
    → parts.parts (get_or numbers i 0) 0 none ps ≡ []
unfolding flat
no_words ps needs e i h z =
    let n = sym (get_or-map capped (counted (lists ps)) i 0) ∙ ap (λ (ks : List ℕ). get_or ks i 0) (sym (e ∙ needed ps)) ∙ z in
    let l = ap capped (get_or-map (λ (l : List Entry). length l) (lists ps) i []) in
    sym (listed ps i h) ∙ ap (flat (λ e. e)) (no-entries (get_or (lists ps) i []) (sym l ∙ n))
