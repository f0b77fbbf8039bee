-- Stores in a row: what is left to store, laid from where the next word goes, makes the area what it shall be.
use Rattle.std.specs.Prelude.{ℕ, ◌+◌, ◌-◌, ◌≤◌, ◌≡◌, refl, List, [], ◌∷◌, ◌++◌, length}
use Rattle.std.proofs.Common.{ap, ap₂, sym, ◌∙◌, append_assoc, arith, length-append, length-take, length-drop}
use borrow.Rule.Slice.PartMut.{mid_of, put_mid}
use Rattle.blob.specs.Laid.{laid, laid_more, laid-area, length-laid}
use Rattle.format.specs.Provider.{Table}
use Rattle.format.specs.Steps.Parts.{Counted, Room, Stored, behind, behind_all, table_part, table_parts}
use Rattle.format.proofs.Theorems.Grows.{behind_all-length, behind_all-grows}

-- of some words for an area, others are left, from a place on, and behind them all will be written that shall be
pub record Left (words behind area words' behind' area' : List ℕ) (to : ℕ) : Type 0 where
  pub same : length area' ≡ length area
  pub behind-is : behind ≡ behind'
  pub area_is : laid area 0 words ≡ laid area' to words'
  pub count : length words ≡ to + length words'

module _ (first more : List ℕ) {words behind area behind' area' : List ℕ} {to : ℕ} (l : Left words behind area (first ++ more) behind' area' to) (r : Room words behind area) where
  -- the next ones have room behind those before
  pub left-room : (to ≤ length area') × (length first ≤ length (mid_of to (length area' - to) area'))
  left-room =
      let n = simp length-append at l.count in
      let room : to + length first ≤ length area' = omega (arith, n, r.fits, l.same) in
      (omega arith, simp (length-take, length-drop) (omega arith))

  -- and the others are left once they are stored
  pub left-more : (behind'' part : List ℕ) (n : ℕ) → behind' ≡ behind'' → n ≡ length first → part ≡ laid (mid_of to (length area' - to) area') 0 first
      → Left words behind area more behind'' (put_mid to (length area' - to) area' part) (to + n)
  left-more behind'' part n b e g =
      let k = simp length-append at l.count in
      let room : to + length first ≤ length area' = omega (arith, k, r.fits, l.same) in
      let p = laid-area area' to (length area') first part (omega arith) (omega arith) (omega arith) g in
      record {
        same = ap length p ∙ length-laid area' to first ∙ l.same;
        behind-is = l.behind-is ∙ b;
        area_is = l.area_is ∙ laid_more area' to first more ∙ ap₂ (λ (a : List ℕ) m. laid a (to + m) more) (sym p) (sym e);
        count = omega (arith, k, e);
      }

-- where none are left, all are stored
pub left-none : {words behind area behind' area' : List ℕ} {to : ℕ} → Left words behind area [] behind' area' to → Stored words behind area to behind' area'
unfolding laid
left-none l = record { count = omega (arith, l.count); behind-is = sym l.behind-is; area_is = sym l.area_is }

pub table_parts_append : (l n : ℕ) (before : List ℕ) (ts us : List Table) → table_parts l n before (ts ++ us) ≡ table_parts l n before ts ++ table_parts l n (behind_all l before ts) us
unfolding table_parts behind_all
table_parts_append l n before [] us = refl
table_parts_append l n before (t ∷ ts) us =
    ap (λ (r : List ℕ). table_part l n before t ++ r) (table_parts_append l n (behind l before t) ts us) ∙ sym (append_assoc (table_part l n before t) _ _)

-- what is few behind some more tables is few before them
pub few-before : (l : ℕ) (before : List ℕ) (ts : List Table) → Counted (behind_all l before ts) → Counted before
few-before l before ts f = (λ i. omega (arith, f.0 i, behind_all-grows l before ts i), sym (behind_all-length l before ts) ∙ f.1)
