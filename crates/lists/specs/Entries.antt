-- Laws of the entries of a list, stated once over their width.
use Prim.Native.Nat.{ℕ, zero, suc, ◌+◌, ◌*◌, ◌-◌, ◌≤◌, ◌<◌}
use Rattle.std.specs.Prelude.{◌≡◌, length, get_or, drop}
use Rattle.std.proofs.Math.Path.{refl, ap, ap₂}
use Rattle.std.proofs.Common.{◌∙◌, mul-one, mul-add, take-take, drop-drop, get_or-take, get_or-drop}
use mathlib.Core.List.{List, [], ◌∷◌}
use Rattle.std.proofs.Math.Nat.{mul-suc, mul-le-mul_left}
use Rattle.std.proofs.Math.Numerals.{unary_clauses}
use native.Mathlib.Omega.{arith}
use Rattle.std.proofs.Math.ListN.{take}
use Rattle.format.specs.Lists.{Entry}
use Rattle.format.specs.Lookup.{entries_from}

-- words of a part of some words
drop_take : (n i m : ℕ) (l : List ℕ) → i + n ≤ m → take n (drop i (take m l)) ≡ take n (drop i l)
drop_take n zero m l h = take-take n m l (omega arith)
drop_take n (suc i) zero l h = absurd (omega arith)
drop_take n (suc i) (suc m) [] h = refl
drop_take n (suc i) (suc m) (x ∷ l) h = drop_take n i m l (omega arith)

module _ (width : ℕ) (words : List ℕ) where
  -- so many of them
  pub entries-length : (n at : ℕ) → length (entries_from width n at words) ≡ n
  unfolding entries_from
  entries-length zero at = refl
  entries-length (suc n) at = ap suc (entries-length n (at + width))

  -- the next of them, and those behind it; or none
  pub entries_next : (n at : ℕ) → 0 < n → entries_from width n at words ≡ take width (drop at words) ∷ entries_from width (n - 1) (at + width) words
  unfolding entries_from
  entries_next n at h = let m : n ≡ suc (n - 1) = omega arith in ap (λ (l : ℕ). entries_from width l at words) m

  pub entries_none : (n at : ℕ) → n ≤ 0 → entries_from width n at words ≡ []
  unfolding entries_from
  entries_none n at h = let m : n ≡ 0 = omega arith in rw m

  -- of so many entries, those from one on, by its number: all of them, the next and those behind it, or none
  unfoldable pub rest : (n at i : ℕ) → List Entry
  rest n at i = entries_from width (n - i) (at + width * i) words

  pub rest_from : (n at i k : ℕ) → n ≡ i + k → rest n at i ≡ entries_from width k (at + width * i) words
  unfolding rest
  rest_from n at i k h = let l : n - i ≡ k = omega arith in rw l

  pub rest_all : (n at : ℕ) → rest n at 0 ≡ entries_from width n at words
  unfolding rest
  rest_all n at = let z : n - 0 ≡ n = omega arith in let a : at + width * 0 ≡ at = omega arith in rw (z, a)

  pub rest_more : (n at i : ℕ) → i < n → rest n at i ≡ take width (drop (at + width * i) words) ∷ rest n at (i + 1)
  unfolding rest
  rest_more n at i h =
      let l : n - i - 1 ≡ n - (i + 1) = omega arith in
      let a : (at + width * i) + width ≡ at + width * (i + 1) = omega (arith, mul-add width i 1, mul-one width) in
      entries_next (n - i) (at + width * i) (omega arith)
      ∙ ap₂ (λ (l a : ℕ). take width (drop (at + width * i) words) ∷ entries_from width l a words) l a

  pub rest_none : (n at i : ℕ) → n ≤ i → rest n at i ≡ []
  unfolding rest
  rest_none n at i h = entries_none (n - i) (at + width * i) (omega arith)

  -- one of them stands in the words, where all of them do
  pub one_in : (n at i : ℕ) → i < n → at + width * n ≤ length words → (at + width * i) + width ≤ length words
  one_in n at i h g = let j : i + 1 ≤ n = omega arith in omega (arith, mul-le-mul_left width j, mul-add width i 1, mul-one width)

  -- the first of them, and those behind some
  pub take_entries : (k n at : ℕ) → k ≤ n → take k (entries_from width n at words) ≡ entries_from width k at words
  unfolding entries_from
  take_entries zero n at h = refl
  take_entries (suc k) zero at h = absurd (omega arith)
  take_entries (suc k) (suc n) at h = ap (λ (es : List Entry). take width (drop at words) ∷ es) (take_entries k n (at + width) (omega arith))

  pub drop_entries : (k n at : ℕ) → k ≤ n → drop k (entries_from width n at words) ≡ entries_from width (n - k) (at + width * k) words
  unfolding entries_from
  drop_entries zero n at h = simp unary_clauses
  drop_entries (suc k) zero at h = absurd (omega arith)
  drop_entries (suc k) (suc n) at h =
      let e : (at + width) + width * k ≡ at + width * suc k = rw mul-suc (omega arith) in
      let m : n - k ≡ suc n - suc k = omega arith in
      drop_entries k n (at + width) (omega arith) ∙ ap₂ (λ l a. entries_from width l a words) m e

  -- a range of them
  pub part-entries : (first count n at : ℕ) → first + count ≤ n
      → take count (drop first (entries_from width n at words)) ≡ entries_from width count (at + width * first) words
  part-entries first count n at h =
      ap (take count) (drop_entries first n at (omega arith)) ∙ take_entries count (n - first) (at + width * first) (omega arith)

  -- one of them
  pub entry : (i n at : ℕ) → i < n → get_or (entries_from width n at words) i [] ≡ take width (drop (at + width * i) words)
  unfolding entries_from
  entry i zero at h = absurd (omega arith)
  entry zero (suc n) at h = simp unary_clauses
  entry (suc i) (suc n) at h =
      let e : (at + width) + width * i ≡ at + width * suc i = rw mul-suc (omega arith) in
      entry i n (at + width) (omega arith) ∙ ap (λ a. take width (drop a words)) e

  -- where there is one more
  pub more : (left at : ℕ) → 0 < left → at + width * left ≤ length words
      → (width * left ≡ width + width * (left - 1)) × (at + width ≤ length words) × ((at + width) + width * (left - 1) ≤ length words)
  more left at h g =
      let s : left ≡ suc (left - 1) = omega arith in
      let e : width * left ≡ width + width * (left - 1) = ap (λ n. width * n) s ∙ rw mul-suc (omega arith) in
      (e, omega arith, omega arith)

  -- a word of one of them, and its first words
  pub word_at : (i at : ℕ) → i < width → get_or (take width (drop at words)) i 0 ≡ get_or words (at + i) 0
  word_at i at h = get_or-take width (drop at words) i 0 h ∙ get_or-drop at words i 0

  pub some_of : (n i at : ℕ) → i + n ≤ width → take n (drop i (take width (drop at words))) ≡ take n (drop (at + i) words)
  some_of n i at h = drop_take n i width (drop at words) h ∙ ap (take n) (drop-drop i at words)
