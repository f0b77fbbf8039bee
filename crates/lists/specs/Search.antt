-- Searching: of words that are compared, and of entries that are searched, those that are left decide.
use Prim.Native.Nat.{ℕ, zero, suc, ◌+◌, ◌*◌, ◌-◌, ◌≤◌, ◌<◌}
use Rattle.std.specs.Prelude.{Option, Some, None, ◌≡◌, refl, Bool, true, false, ◌&&◌, List, [], ◌∷◌, get_or, take, drop, eqb}
use Rattle.std.proofs.Math.Path.{ap}
use Rattle.std.proofs.Common.{ap₂, sym, ◌∙◌, mul-add, add-one, length-take, length-drop, drop_of_length-le, eq-eqb, ne_eqb}
use native.Mathlib.Omega.{arith}
use Rattle.std.proofs.Math.ListN.{length}
use Rattle.std.proofs.Math.Seq.{drop-cons}
use Rattle.blob.specs.Reading.{choose}
use Rattle.format.specs.Lists.{Entry}
use Rattle.format.specs.Lookup.{entries_from, word_of, alike, every, select, position, positions}
use Rattle.lists.specs.declared.Run.{Run}
use Rattle.lists.specs.Entries.{entries-length, drop_entries, more, some_of, rest, rest_from, rest_more, rest_none}
use Rattle.lists.specs.Found.{entries, behind, has, found}

-- Of two runs of words, those that are left decide: where the next two are equal, where they are not, and where none is left.
module _ (words key : List ℕ) (at : ℕ) where
  abbrev pub alike_from : ℕ → Bool
  alike_from i = alike (take (length key - i) (drop (at + i) words)) (drop i key)

  alike-more : (i : ℕ) → at + length key ≤ length words → i < length key → alike_from i ≡ (eqb (get_or words (at + i) 0) (get_or key i 0) && alike_from (i + 1))
  unfolding alike
  alike-more i h g =
      let n : length key - i ≡ suc (length key - (i + 1)) = omega arith in
      let a : at + (i + 1) ≡ suc (at + i) = omega arith in
      let b : i + 1 ≡ suc i = omega arith in
      let k : at + i < length words = omega arith in
      rw (n, drop-cons words (at + i) 0 k, drop-cons key i 0 g, a, b)

  pub alike-equal : (i : ℕ) → at + length key ≤ length words → i < length key → get_or words (at + i) 0 ≡ get_or key i 0 → alike_from i ≡ alike_from (i + 1)
  alike-equal i h g e = alike-more i h g ∙ ap (λ t. t && alike_from (i + 1)) (eq-eqb _ _ e)

  pub alike-other : (i : ℕ) → at + length key ≤ length words → i < length key → (get_or words (at + i) 0 ≡ get_or key i 0 → ⊥) → alike_from i ≡ false
  alike-other i h g e = alike-more i h g ∙ ap (λ t. t && alike_from (i + 1)) (ne_eqb _ _ e)

  pub alike-none : (i : ℕ) → length key ≤ i → alike_from i ≡ true
  unfolding alike
  alike-none i h = let n : length key - i ≡ 0 = omega arith in rw (n, drop_of_length-le key h)

-- Of entries that are searched, the next one has the words or has not, or none is left.
module _ (words key : List ℕ) (width from : ℕ) (k : from + length key ≤ width) (n at i number : ℕ) (h : i < n) where
  position-more : position (has from key) number (rest width words n at i)
      ≡ choose (alike (take (length key) (drop ((at + width * i) + from) words)) key) (number ∷ []) (position (has from key) (number + 1) (rest width words n at (i + 1)))
  unfolding position
  position-more = let m : suc number ≡ number + 1 = omega arith in rw (rest_more width words n at i h, some_of width words (length key) from (at + width * i) k, m)

  pub position_here : true ≡ alike (take (length key) (drop ((at + width * i) + from) words)) key → position (has from key) number (rest width words n at i) ≡ number ∷ []
  position_here e = position-more ∙ rw (← e)

  pub position-behind : false ≡ alike (take (length key) (drop ((at + width * i) + from) words)) key
      → position (has from key) number (rest width words n at i) ≡ position (has from key) (number + 1) (rest width words n at (i + 1))
  position-behind e = position-more ∙ rw (← e)

pub position-none : (p : Entry → Bool) (words : List ℕ) (width n at i number : ℕ) → n ≤ i → position p number (rest width words n at i) ≡ []
unfolding position
position-none p words width n at i number h = rw (rest_none width words n at i h)

-- Of entries that are tested by their numbers, the next one passes or does not, or none is left.
module _ (p : Entry → Bool) (words : List ℕ) (width n at i : ℕ) where
  pub every-next : i < n → p (take width (drop (at + width * i) words)) ≡ true → every p (rest width words n at i) ≡ every p (rest width words n at (i + 1))
  unfolding every
  every-next h e = rw (rest_more width words n at i h, e)

  pub every_stop : i < n → p (take width (drop (at + width * i) words)) ≡ false → every p (rest width words n at i) ≡ false
  unfolding every
  every_stop h e = rw (rest_more width words n at i h, e)

  pub every_all : n ≤ i → every p (rest width words n at i) ≡ true
  unfolding every
  every_all h = rw (rest_none width words n at i h)

-- Of entries that are tested, those that are left decide: where the next one passes, where it does not, and where none is left.
module _ (p : Entry → Bool) (words : List ℕ) (width left at : ℕ) where
  every_more : 0 < left → every p (entries_from width left at words) ≡ (p (take width (drop at words)) && every p (entries_from width (left - 1) (at + width) words))
  unfolding every entries_from
  every_more h = let m : left ≡ suc (left - 1) = omega arith in ap (λ (l : ℕ). every p (entries_from width l at words)) m

  pub every_here : 0 < left → p (take width (drop at words)) ≡ true → every p (entries_from width left at words) ≡ every p (entries_from width (left - 1) (at + width) words)
  every_here h e = every_more h ∙ rw e

  pub every-not : 0 < left → p (take width (drop at words)) ≡ false → every p (entries_from width left at words) ≡ false
  every-not h e = every_more h ∙ rw e

  pub every-none : left ≤ 0 → every p (entries_from width left at words) ≡ true
  unfolding every entries_from
  every-none h = let m : left ≡ 0 = omega arith in rw m

-- two tests at once
and_swap : (a b c d : Bool) → ((a && b) && (c && d)) ≡ ((a && c) && (b && d))
and_swap true b true d = refl
and_swap true true false d = refl
and_swap true false false d = refl
and_swap false b c d = refl

pub every-both : (p q : Entry → Bool) (es : List Entry) → every (λ e. p e && q e) es ≡ (every p es && every q es)
unfolding every
every-both p q [] = refl
every-both p q (e ∷ es) = ap (λ t. (p e && q e) && t) (every-both p q es) ∙ and_swap (p e) (q e) (every p es) (every q es)

-- Tests that agree on entries of a width find the same among such entries.
pub position-same : (p q : Entry → Bool) (words : List ℕ) (width n at k : ℕ) → at + width * n ≤ length words → ((e : Entry) → length e ≡ width → p e ≡ q e)
    → position p k (entries_from width n at words) ≡ position q k (entries_from width n at words)
unfolding position entries_from
position-same p q words width zero at k h f = refl
position-same p q words width (suc n) at k h f =
    let m = more width words (suc n) at (omega arith) h in
    let l : length (take width (drop at words)) ≡ width = simp (length-take, length-drop) (omega arith) in
    let g : (at + width) + width * n ≤ length words = omega (arith, m) in
    rw (f _ l, position-same p q words width n (at + width) (suc k) g f)

pub and_true : (b : Bool) → (b && true) ≡ b
and_true true = refl
and_true false = refl

-- an entry that has one word at a place, and two
pub has_one : (i x : ℕ) (e : Entry) → i < length e → has i (x ∷ []) e ≡ eqb (word_of i e) x
unfolding alike
has_one i x e h = rw (drop-cons e i 0 h) (and_true (eqb (word_of i e) x))

pub has-two : (i x y : ℕ) (e : Entry) → suc i < length e → has i (x ∷ y ∷ []) e ≡ (eqb (word_of i e) x && eqb (word_of (suc i) e) y)
unfolding alike
has-two i x y e h =
    let g : i < length e = omega arith in
    rw (drop-cons e i 0 g, drop-cons e (suc i) 0 h) (ap (λ t. eqb (word_of i e) x && t) (and_true (eqb (word_of (suc i) e) y)))

-- what was found tells the list
abbrev pub told : Option ℕ → List ℕ
told None = []
told (Some n) = n ∷ []

pub nothing-found : (n : ℕ) → ◌≡◌ {A = Option ℕ} None (Some n) → ⊥
nothing-found n e = omega (arith, ap (λ f. length (told f)) e)

pub same_found : (m n : ℕ) → ◌≡◌ {A = Option ℕ} (Some m) (Some n) → m ≡ n
same_found m n e = ap (λ f. get_or (told f) 0 0) e

-- a run's entries, by their numbers
pub run-rest : (width : ℕ) (r : Run) (words : List ℕ) → rest width words (r.first + r.count) r.start r.first ≡ entries width r words
run-rest width r words = rest_from width words (r.first + r.count) r.start r.first r.count refl

-- a search gives one number at most, of an entry
pub position-found : (p : Entry → Bool) (k : ℕ) (es : List Entry) (n : ℕ) → found (position p k es) ≡ Some n
    → (position p k es ≡ n ∷ []) × (k ≤ n) × (n < k + length es)
unfolding position
position-found p k [] n e = absurd (nothing-found n e)
position-found p k (x ∷ es) n e = go (p x) e (position-found p (suc k) es n)
  where
    go : (t : Bool) → found (choose t (k ∷ []) (position p (suc k) es)) ≡ Some n
        → (found (position p (suc k) es) ≡ Some n → (position p (suc k) es ≡ n ∷ []) × (suc k ≤ n) × (n < suc k + length es))
        → (choose t (k ∷ []) (position p (suc k) es) ≡ n ∷ []) × (k ≤ n) × (n < k + suc (length es))
    go true e ih = let q = same_found k n e in (ap told e, omega arith, omega arith)
    go false e ih = let h = ih e in (h.0, omega arith, omega arith)

pub position-single : (p : Entry → Bool) (k : ℕ) (es : List Entry) → position p k es ≡ told (found (position p k es))
unfolding position
position-single p k [] = refl
position-single p k (x ∷ es) = go (p x) (position-single p (suc k) es)
  where
    go : (t : Bool) → position p (suc k) es ≡ told (found (position p (suc k) es))
        → choose t (k ∷ []) (position p (suc k) es) ≡ told (found (choose t (k ∷ []) (position p (suc k) es)))
    go true ih = refl
    go false ih = ih

-- the first entry that a test picks is the one at the number that it finds; it picks none where it finds none
pub select-found : (p : Entry → Bool) (k : ℕ) (es : List Entry) (n : ℕ) → found (position p k es) ≡ Some n → take 1 (select p es) ≡ get_or es (n - k) [] ∷ []
unfolding select position
select-found p k [] n e = absurd (nothing-found n e)
select-found p k (x ∷ es) n e = go (p x) e (select-found p (suc k) es n)
  where
    go : (t : Bool) → found (choose t (k ∷ []) (position p (suc k) es)) ≡ Some n
        → (found (position p (suc k) es) ≡ Some n → take 1 (select p es) ≡ get_or es (n - suc k) [] ∷ [])
        → take 1 (choose t (x ∷ select p es) (select p es)) ≡ get_or (x ∷ es) (n - k) [] ∷ []
    go true e ih = let z : n - k ≡ 0 = omega (arith, same_found k n e) in rw z
    go false e ih = let z : n - k ≡ suc (n - suc k) = omega (arith, position-found p (suc k) es n e) in rw z (ih e)

pub select-none : (p : Entry → Bool) (k : ℕ) (es : List Entry) → found (position p k es) ≡ None → select p es ≡ []
unfolding select position
select-none p k [] e = refl
select-none p k (x ∷ es) e = go (p x) e (select-none p (suc k) es)
  where
    go : (t : Bool) → found (choose t (k ∷ []) (position p (suc k) es)) ≡ None → (found (position p (suc k) es) ≡ None → select p es ≡ [])
        → choose t (x ∷ select p es) (select p es) ≡ []
    go true e ih = absurd (nothing-found k (sym e))
    go false e ih = ih e

-- All that a test picks: none where it finds none; else the one that it finds, and those behind that.
pub positions-none : (p : Entry → Bool) (k : ℕ) (es : List Entry) → found (position p k es) ≡ None → positions p k es ≡ []
unfolding positions position
positions-none p k [] e = refl
positions-none p k (x ∷ es) e = go (p x) e (positions-none p (suc k) es)
  where
    go : (t : Bool) → found (choose t (k ∷ []) (position p (suc k) es)) ≡ None → (found (position p (suc k) es) ≡ None → positions p (suc k) es ≡ [])
        → choose t (k ∷ positions p (suc k) es) (positions p (suc k) es) ≡ []
    go true e ih = absurd (nothing-found k (sym e))
    go false e ih = ih e

pub positions-found : (p : Entry → Bool) (k : ℕ) (es : List Entry) (n : ℕ) → found (position p k es) ≡ Some n
    → positions p k es ≡ n ∷ positions p (suc n) (drop (suc n - k) es)
unfolding positions position
positions-found p k [] n e = absurd (nothing-found n e)
positions-found p k (x ∷ es) n e = go (p x) e (positions-found p (suc k) es n)
  where
    go : (t : Bool) → found (choose t (k ∷ []) (position p (suc k) es)) ≡ Some n
        → (found (position p (suc k) es) ≡ Some n → positions p (suc k) es ≡ n ∷ positions p (suc n) (drop (suc n - suc k) es))
        → choose t (k ∷ positions p (suc k) es) (positions p (suc k) es) ≡ n ∷ positions p (suc n) (drop (suc n - k) (x ∷ es))
    go true e ih = let z : suc n - k ≡ 1 = omega (arith, same_found k n e) in rw (z, ← same_found k n e)
    go false e ih = let z : suc n - k ≡ suc (suc n - suc k) = omega (arith, position-found p (suc k) es n e) in rw z (ih e)

-- of a run's entries
pub run-positions : (p : Entry → Bool) (words : List ℕ) (width : ℕ) (r : Run) (n : ℕ) → found (position p r.first (entries width r words)) ≡ Some n
    → (positions p r.first (entries width r words)
    ≡ n ∷ positions p (n + 1) (entries width (behind r n) words))
    × (r.first ≤ n) × (n < r.first + r.count)
run-positions p words width r n e =
    let f = position-found p r.first (entries width r words) n e in
    let l = entries-length width words r.count (r.start + width * r.first) in
    let c : r.count - (suc n - r.first) ≡ r.first + r.count - (n + 1) = omega (arith, f, l) in
    let s : r.first + (suc n - r.first) ≡ n + 1 = omega (arith, f) in
    let a : (r.start + width * r.first) + width * (suc n - r.first) ≡ r.start + width * (n + 1) = rw (← s) (omega (arith, mul-add width r.first (suc n - r.first))) in (
      positions-found p r.first (entries width r words) n e
          ∙ ap₂ (λ (m : ℕ) (es : List Entry). n ∷ positions p m es) (sym (add-one n)) (drop_entries width words (suc n - r.first) r.count (r.start + width * r.first) (omega (arith, f, l)) ∙ ap₂ (λ m at. entries_from width m at words) c a),
      f.1,
      omega (arith, f, l),
    )
