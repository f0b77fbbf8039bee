-- What lists that need so much get of so much: 9 for the first that is too small; and the sums over the rows, row by row.
use Prim.{tt}
use Rattle.std.specs.Prelude.{ℕ, zero, suc, ◌+◌, ◌*◌, ◌≤◌, ◌<◌, ◌≡◌, refl, false, ◌&&◌, List, [], ◌∷◌, map, leb, ltb, length, get_or, drop, take, set, Ok, Err, Result}
use Rattle.std.proofs.Common.{mul-le-mul, suc-add, add_assoc, add-zero, arith, ap, sym, ◌∙◌, drop_of_length-le, le-leb, ltb-true}
use Rattle.std.proofs.lemmas.Bool.{lt-leb}
use Rattle.blob.specs.declared.Refusal.{Refusal}
use Rattle.blob.specs.Places.{Each}
use Rattle.blob.proofs.Laws.{passes}
use Rattle.blob.specs.Reading.{choose}
use Rattle.format.specs.Area.{Row, rows, AREAS, WIDEST, place}
use Rattle.format.specs.Answer.{too_small, capped, moderate, areas}
use Rattle.format.specs.Steps.Needs.{plus, modest}
use Rattle.format.specs.Table.{kind_list}

unfoldable pub short : List Row → List ℕ → List ℕ → Result (Unit {0}) Refusal
short [] cs ks = Ok tt
short (r ∷ rs) [] ks = Ok tt
short (r ∷ rs) (c ∷ cs) [] = Ok tt
short (r ∷ rs) (c ∷ cs) (k ∷ ks) = choose (leb k c) (short rs cs ks) (Err (too_small r.number c))

abbrev pub numbers : List ℕ
numbers = map (λ r. r.number) rows

abbrev pub widths : List ℕ
widths = map (λ r. r.words) rows

-- a list from a place on
pub drop_more : {A : Type 0} (d : A) (xs : List A) (i : ℕ) → i < length xs → drop i xs ≡ get_or xs i d ∷ drop (i + 1) xs
drop_more d [] i h = absurd (omega arith)
drop_more d (x ∷ xs) zero h = refl
drop_more d (x ∷ xs) (suc i) h = rw (suc-add) (drop_more d xs i (omega arith))

each-most : (ns : List ℕ) (m : ℕ) → Each (λ n. n ≤ m) ns → (i : ℕ) → get_or ns i 0 ≤ m
each-most [] m e i = omega arith
each-most (n ∷ ns) m e zero = e.0
each-most (n ∷ ns) m e (suc i) = each-most ns m e.1 i

-- so many entries have no more words than a word counts of the widest
pub words-most : (n w : ℕ) → n < 4294967296 → w ≤ WIDEST → n * w ≤ WIDEST * 4294967295
words-most n w h g = let l : n ≤ 4294967295 = omega arith in omega (arith, mul-le-mul l g)

-- the row of a kind
pub kind_row : (k : ℕ) → 1 ≤ k → k ≤ 8 → place (kind_list k) < AREAS
kind_row zero h g = absurd (omega arith)
kind_row (suc k) h g = ltb-true _ _ (passes 8 (λ k. ltb (place (kind_list (suc k))) AREAS) refl k (omega arith))

-- row by row: what is left decides
pub short-step : (rs : List Row) (cs ks : List ℕ) (i : ℕ) → i < length rs → i < length cs → i < length ks
    → short (drop i rs) (drop i cs) (drop i ks)
    ≡ choose (leb (get_or ks i 0) (get_or cs i 0)) (short (drop (i + 1) rs) (drop (i + 1) cs) (drop (i + 1) ks))
    (Err (too_small (get_or (map (λ r. r.number) rs) i 0) (get_or cs i 0)))
unfolding short
short-step [] cs ks i h g j = absurd (omega arith)
short-step (r ∷ rs) [] ks i h g j = absurd (omega arith)
short-step (r ∷ rs) (c ∷ cs) [] i h g j = absurd (omega arith)
short-step (r ∷ rs) (c ∷ cs) (k ∷ ks) zero h g j = refl
short-step (r ∷ rs) (c ∷ cs) (k ∷ ks) (suc i) h g j = rw suc-add (short-step rs cs ks i (omega arith) (omega arith) (omega arith))

pub moderate-step : (cs : List ℕ) (i : ℕ) → i < length cs → moderate (drop i cs) ≡ (leb (get_or cs i 0) 65536 && moderate (drop (i + 1) cs))
unfolding moderate
moderate-step [] i h = absurd (omega arith)
moderate-step (c ∷ cs) zero h = refl
moderate-step (c ∷ cs) (suc i) h = rw suc-add (moderate-step cs i (omega arith))

pub areas-step : (rs : List Row) (cs : List ℕ) (i : ℕ) → i < length rs → i < length cs
    → areas (drop i rs) (drop i cs) ≡ get_or cs i 0 * get_or (map (λ r. r.words) rs) i 0 + areas (drop (i + 1) rs) (drop (i + 1) cs)
unfolding areas
areas-step [] cs i h g = absurd (omega arith)
areas-step (r ∷ rs) [] i h g = absurd (omega arith)
areas-step (r ∷ rs) (c ∷ cs) zero h g = refl
areas-step (r ∷ rs) (c ∷ cs) (suc i) h g = rw suc-add (areas-step rs cs i (omega arith) (omega arith))

-- up to a row, and with one row more
pub areas-next : (rs : List Row) (cs : List ℕ) (i : ℕ) → i < length rs → i < length cs
    → areas rs (take (i + 1) cs) ≡ areas rs (take i cs) + get_or cs i 0 * get_or (map (λ r. r.words) rs) i 0
unfolding areas
areas-next [] cs i h g = absurd (omega arith)
areas-next (r ∷ rs) [] i h g = absurd (omega arith)
areas-next (r ∷ rs) (c ∷ cs) zero h g = omega arith
areas-next (r ∷ rs) (c ∷ cs) (suc i) h g = rw suc-add (ap (λ n. c * r.words + n) (areas-next rs cs i (omega arith) (omega arith)) ∙ sym (add_assoc _ _ _))

-- the sums from a row on
unfoldable pub plus_from : ℕ → List ℕ → List ℕ → List ℕ
plus_from zero xs ys = plus xs ys
plus_from (suc i) [] ys = []
plus_from (suc i) (x ∷ xs) [] = x ∷ xs
plus_from (suc i) (x ∷ xs) (y ∷ ys) = x ∷ plus_from i xs ys

pub plus_step : (i : ℕ) (xs ys : List ℕ) → i < length xs → i < length ys
    → plus_from i xs ys ≡ plus_from (i + 1) (set xs i (capped (get_or xs i 0 + get_or ys i 0))) ys
unfolding plus_from plus
plus_step i [] ys h g = absurd (omega arith)
plus_step i (x ∷ xs) [] h g = absurd (omega arith)
plus_step zero (x ∷ xs) (y ∷ ys) h g = refl
plus_step (suc i) (x ∷ xs) (y ∷ ys) h g = rw suc-add (ap (λ (l : List ℕ). x ∷ l) (plus_step i xs ys (omega arith) (omega arith)))

pub plus-end : (i : ℕ) (xs ys : List ℕ) → length xs ≤ i → plus_from i xs ys ≡ xs
unfolding plus_from plus
plus-end zero [] ys h = refl
plus-end zero (x ∷ xs) ys h = absurd (omega arith)
plus-end (suc i) [] ys h = refl
plus-end (suc i) (x ∷ xs) [] h = refl
plus-end (suc i) (x ∷ xs) (y ∷ ys) h = ap (λ (l : List ℕ). x ∷ l) (plus-end i xs ys (omega arith))

pub modest-set : (xs : List ℕ) (i n : ℕ) → modest xs → modest (set xs i (capped n))
modest-set [] i n m = tt
modest-set (x ∷ xs) zero n m = (omega arith, m.1)
modest-set (x ∷ xs) (suc i) n m = (m.0, modest-set xs i n m.1)

pub modest-at : (xs : List ℕ) (i : ℕ) → modest xs → get_or xs i 0 ≤ 65537
modest-at xs i m = each-most xs 65537 m i

module _ (cs : List ℕ) (cs-rows : length cs ≡ AREAS) (i : ℕ) where
  module _ (ks : List ℕ) (ks-rows : length ks ≡ AREAS) where
    pub room-more : i < AREAS → get_or ks i 0 ≤ get_or cs i 0
        → short (drop i rows) (drop i cs) (drop i ks) ≡ short (drop (i + 1) rows) (drop (i + 1) cs) (drop (i + 1) ks)
    room-more h g = short-step rows cs ks i (omega arith) (omega arith) (omega arith) ∙ rw (le-leb _ _ g)

    pub room-stop : i < AREAS → get_or cs i 0 < get_or ks i 0 → short (drop i rows) (drop i cs) (drop i ks) ≡ Err (too_small (get_or numbers i 0) (get_or cs i 0))
    room-stop h g = short-step rows cs ks i (omega arith) (omega arith) (omega arith) ∙ rw (lt-leb _ _ g)

    pub room-end : AREAS ≤ i → short (drop i rows) (drop i cs) (drop i ks) ≡ Ok tt
    unfolding short
    room-end h = rw (drop_of_length-le rows {i = i} (omega arith))

  module _ (sum words : ℕ) where
    pub lent-more : i < AREAS → get_or cs i 0 ≤ 65536 → (more : ℕ) → more ≡ get_or cs i 0 * get_or widths i 0
        → (moderate (drop i cs) && leb (sum + areas (drop i rows) (drop i cs)) words)
        ≡ (moderate (drop (i + 1) cs) && leb (sum + more + areas (drop (i + 1) rows) (drop (i + 1) cs)) words)
    lent-more h g more e =
        rw (e, moderate-step cs i (omega arith), le-leb _ _ g, areas-step rows cs i (omega arith) (omega arith), add_assoc sum (get_or cs i 0 * get_or widths i 0) (areas (drop (i + 1) rows) (drop (i + 1) cs)))

    pub lent-stop : i < AREAS → 65536 < get_or cs i 0 → (moderate (drop i cs) && leb (sum + areas (drop i rows) (drop i cs)) words) ≡ false
    lent-stop h g = rw (moderate-step cs i (omega arith), lt-leb _ _ g)

    pub lent-end : AREAS ≤ i → (moderate (drop i cs) && leb (sum + areas (drop i rows) (drop i cs)) words) ≡ leb sum words
    unfolding moderate areas
    lent-end h = rw (drop_of_length-le cs {i = i} (omega arith), add-zero)
