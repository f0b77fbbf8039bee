-- What holds of the code's way through a number: byte by byte, what is left decides.
use Prim.Native.Nat.{ℕ, zero, suc, ◌+◌, ◌-◌, ◌*◌, ◌/◌, ◌%◌, ◌≤◌, ◌<◌}
use Rattle.std.specs.Prelude.{◌≡◌, Bool, not, ◌&&◌, ◌||◌, length, eqb, Result, Ok, Err}
use Rattle.std.proofs.Math.Path.{refl, sym}
use Rattle.std.proofs.Common.{ap, ap₂, ◌∙◌, subst, mul_comm, mul_assoc, mul-add, mul-le-mul_left, arith, length-drop, drop_of_length-le, drop-cons}
use Rattle.std.proofs.Math.Bool.{true, false}
use mathlib.Core.List.{List, [], ◌∷◌}
use Rattle.std.proofs.Math.Nat.{sub-zero, suc-sub-suc}
use Rattle.std.proofs.Math.Numerals.{add-one}
use Rattle.std.proofs.Math.ListN.{get_or, drop}
use Rattle.std.proofs.Math.Dec.{leb, ltb, eqb-suc-suc, eqb-zero-suc}
use borrow.Author.Tests.{le-leb, lt-leb, leb-true, leb-false, ltb-true, lt-ltb, le-ltb, eqb-true, eqb-false, ne_eqb, eq-eqb, not-true}
use Rattle.blob.specs.Reading.{Outcome, done, refused, choose}
use Rattle.blob.proofs.Laws.{both, same, choose-done, fine-value}
use Rattle.number.specs.Number.{LONGEST, LONG, upto, ended, value, last_or, padded, fault, number_at}
use Rattle.number.specs.declared.Number.{Number}
use Rattle.number.specs.declared.Width.{Width}
use Rattle.number.specs.declared.Width.TheVariants.{Byte, Half, Word, Long}
use Rattle.number.specs.declared.Fault.{Fault}
use Rattle.number.specs.declared.Fault.TheVariants.{Cut, Wrong}
use Rattle.number.specs.Scan.{most, code, coded, passed, ones, last, scan, Rest, Stands, number_of, Read}

pub untrue : {A : Type 0} → false ≡ true → A
untrue e = absurd (let z : ◌≡◌ {A = ℕ} 0 1 = cc in omega arith)

-- an ended number whose last byte is not zero is not zero
pub lasting : (k : ℕ) (bs : List ℕ) (d : ℕ) → ended (upto k bs) ≡ true → eqb (last_or d (upto k bs)) 0 ≡ false → 1 ≤ value (upto k bs)
unfolding upto ended last_or value
lasting zero bs d e n = untrue e
lasting (suc k) [] d e n = untrue e
lasting (suc k) (b ∷ bs) d e n = go (ltb b 128) refl (lasting k bs b) e n
  where
    go : (t : Bool) → ltb b 128 ≡ t → (ended (upto k bs) ≡ true → eqb (last_or b (upto k bs)) 0 ≡ false → 1 ≤ value (upto k bs))
        → (t || ended (choose t [] (upto k bs))) ≡ true → eqb (last_or b (choose t [] (upto k bs))) 0 ≡ false → 1 ≤ b % 128 + 128 * value (choose t [] (upto k bs))
    go true t ih e n = let q = ltb-true b 128 t in let z = eqb-false b 0 n in ne_zero b q z
      where
        ne_zero : (b : ℕ) → b < 128 → (b ≡ 0 → ⊥) → 1 ≤ b % 128 + 128 * value []
        ne_zero zero h z = absurd (z refl)
        ne_zero (suc b) h z = omega arith
    go false t ih e n = omega (arith, ih e n)

-- a width of ones only: the groups before the last don't matter
module _ (k m v g : ℕ) where
  ones-here : m % 128 ≡ 127 → (t : Bool) → leb v (m / 128) ≡ t → leb (g % 128 + 128 * v) m ≡ t
  ones-here q true t = le-leb (g % 128 + 128 * v) m (let w = leb-true v (m / 128) t in omega (arith, w, q))
  ones-here q false t = lt-leb (g % 128 + 128 * v) m (let w = leb-false v (m / 128) t in omega (arith, w, q))

  within : ones (suc k) m ≡ true → 1 ≤ v → leb (g % 128 + 128 * v) m ≡ leb v (m / 128)
  unfolding ones
  within o h = go (ltb m 128) refl o
    where
      go : (t : Bool) → ltb m 128 ≡ t → (t || (eqb (m % 128) 127 && ones k (m / 128))) ≡ true → leb (g % 128 + 128 * v) m ≡ leb v (m / 128)
      go true t o = let q = ltb-true m 128 t in lt-leb (g % 128 + 128 * v) m (omega arith) ∙ sym (lt-leb v (m / 128) (omega arith))
      go false t o = ones-here (eqb-true (m % 128) 127 (both (eqb (m % 128) 127) _ o).0) (leb v (m / 128)) refl

ones-less : (k m : ℕ) → ones (suc k) m ≡ true → ones k (m / 128) ≡ true
unfolding ones
ones-less zero m o = refl
ones-less (suc k) m o = go (ltb m 128) refl o
  where
    go : (t : Bool) → ltb m 128 ≡ t → (t || (eqb (m % 128) 127 && ones (suc k) (m / 128))) ≡ true → ones (suc k) (m / 128) ≡ true
    go true t o = let q = ltb-true m 128 t in rw (lt_small (m / 128) (omega arith))
      where
        lt_small : (n : ℕ) → n < 128 → ltb n 128 ≡ true
        lt_small n h = le-leb (suc n) 128 (omega arith)
    go false t o = (both (eqb (m % 128) 127) _ o).1

-- what is found of the bytes that are left, of at most so many
abbrev judged : (k limit i d : ℕ) → List ℕ → Result ℕ Fault
judged k limit i d t = choose (ended t) (choose (leb (value t) limit && not (eqb (last_or d t) 0)) (Ok (i + length t)) (Err Wrong)) (Err (choose (eqb (length t) k) Wrong Cut))

-- the same with one more byte before them, whose high bit is set
abbrev judged_behind : (k limit i d b : ℕ) → List ℕ → Result ℕ Fault
judged_behind k limit i d b t =
    choose (ended t) (choose (leb (b % 128 + 128 * value t) limit && not (eqb (last_or d t) 0)) (Ok (i + suc (length t))) (Err Wrong)) (Err (choose (eqb (suc (length t)) (suc k)) Wrong Cut))

one_more : (k m i d b : ℕ) (bs : List ℕ) → ones (suc k) m ≡ true → judged k (m / 128) (i + 1) d (upto k bs) ≡ judged_behind k m i d b (upto k bs)
one_more k m i d b bs o = go (ended (upto k bs)) refl (eqb (last_or d (upto k bs)) 0) refl
  where
    t : List ℕ
    t = upto k bs

    go : (e : Bool) → ended t ≡ e → (z : Bool) → eqb (last_or d t) 0 ≡ z
        → choose e (choose (leb (value t) (m / 128) && not z) (Ok (i + 1 + length t)) (Err Wrong)) (Err (choose (eqb (length t) k) Wrong Cut))
        ≡ choose e (choose (leb (b % 128 + 128 * value t) m && not z) (Ok (i + suc (length t))) (Err Wrong)) (Err (choose (eqb (suc (length t)) (suc k)) Wrong Cut))
    go true e true z = rw (and_false (leb (value t) (m / 128)), and_false (leb (b % 128 + 128 * value t) m))
      where
        and_false : (a : Bool) → (a && false) ≡ false
        and_false true = refl
        and_false false = refl
    go true e false z =
        let n : i + 1 + length t ≡ i + suc (length t) = omega arith in
        rw (within k m (value t) b o (lasting k bs d e z), n)
    go false e z' z = rw (eqb-suc-suc (length t) k)

-- a byte that ends a number, by itself
pub alone : (b : ℕ) → ltb b 128 ≡ true → b % 128 + 128 * value [] ≡ b
unfolding value
alone b t = let q = ltb-true b 128 t in omega (arith, q)

-- behind the first byte
scanned : (k m at i d : ℕ) (bs : List ℕ) → ones k m ≡ true → at < i → scan at k m i bs ≡ judged k m i d (upto k bs)
unfolding scan upto ended last_or value
scanned zero m at i d bs o h = refl
scanned (suc k) m at i d [] o h = rw (eqb-zero-suc k)
scanned (suc k) m at i d (b ∷ bs) o h =
    go (ltb b 128) refl (scanned k (m / 128) at (i + 1) b bs (ones-less k m o) (omega arith) ∙ one_more k m i b b bs o)
  where
    go : (t : Bool) → ltb b 128 ≡ t → scan at k (m / 128) (i + 1) bs ≡ judged_behind k m i b b (upto k bs)
        → choose t (choose (last b m (eqb i at)) (Ok (i + 1)) (Err Wrong)) (scan at k (m / 128) (i + 1) bs) ≡ (let w = choose t [] (upto k bs) in
        choose (t || ended w) (choose (leb (b % 128 + 128 * value w) m && not (eqb (last_or b w) 0)) (Ok (i + suc (length w))) (Err Wrong)) (Err (choose (eqb (suc (length w)) (suc k)) Wrong Cut)))
    go true t ih = rw (alone b t, ne_eqb i at (λ e. omega arith))
    go false t ih = ih

-- from the first byte on
pub scans : (m : ℕ) (bytes : List ℕ) (at : ℕ) → ones LONGEST m ≡ true → passed (number_at m bytes at) ≡ scan at LONGEST m at (drop at bytes)
unfolding number_at scan upto ended last_or value
scans m bytes at o = from (drop at bytes)
  where
    shown : (e p : Bool) (v n : ℕ)
        → passed (choose e (choose p (done (record { value = v; behind = at + n })) (refused (fault 16 at))) (refused (fault (choose (eqb n LONGEST) 16 15) at)))
        ≡ choose e (choose p (Ok (at + n)) (Err Wrong)) (Err (choose (eqb n LONGEST) Wrong Cut))
    shown true true v n = refl
    shown true false v n = refl
    shown false p v n = named (eqb n LONGEST)
      where
        named : (b : Bool) → passed (refused (fault (choose b 16 15) at)) ≡ Err (choose b Wrong Cut)
        named true = refl
        named false = refl

    from : (l : List ℕ) → (let bs = upto LONGEST l in
        passed (choose (ended bs) (choose (leb (value bs) m && not (padded bs)) (done (record { value = value bs; behind = at + length bs })) (refused (fault 16 at)))
        (refused (fault (choose (eqb (length bs) LONGEST) 16 15) at))))
        ≡ scan at LONGEST m at l
    from [] = refl
    from (b ∷ bs) = shown (ended (upto LONGEST (b ∷ bs))) (leb (value (upto LONGEST (b ∷ bs))) m && not (padded (upto LONGEST (b ∷ bs)))) (value (upto LONGEST (b ∷ bs))) (length (upto LONGEST (b ∷ bs)))
        ∙ sym (go (ltb b 128) refl (scanned 9 (m / 128) at (at + 1) 1 bs (ones-less 9 m o) (omega arith) ∙ one_more 9 m at 1 b bs o))
      where
        go : (t : Bool) → ltb b 128 ≡ t → scan at 9 (m / 128) (at + 1) bs ≡ judged_behind 9 m at 1 b (upto 9 bs)
            → choose t (choose (last b m (eqb at at)) (Ok (at + 1)) (Err Wrong)) (scan at 9 (m / 128) (at + 1) bs) ≡ (let w = choose t [] (upto 9 bs) in
            choose (t || ended w) (choose (leb (b % 128 + 128 * value w) m && not (eqb (last_or 1 w) 0)) (Ok (at + suc (length w))) (Err Wrong)) (Err (choose (eqb (suc (length w)) 10) Wrong Cut)))
        go true t ih = rw (alone b t, eq-eqb at at refl)
        go false t ih = ih

-- no byte may follow, none does, one that ends the number, one that doesn't
module _ (bytes : List ℕ) (at left limit i : ℕ) where
  pub scan-over : left ≤ 0 → scan at left limit i (drop i bytes) ≡ Err Wrong
  unfolding scan
  scan-over h = go left h
    where
      go : (k : ℕ) → k ≤ 0 → scan at k limit i (drop i bytes) ≡ Err Wrong
      go zero h = refl
      go (suc k) h = absurd (omega arith)

  pub scan-out : 0 < left → length bytes ≤ i → scan at left limit i (drop i bytes) ≡ Err Cut
  unfolding scan
  scan-out h g = rw (drop_of_length-le bytes g) (go left h)
    where
      go : (k : ℕ) → 0 < k → scan at k limit i [] ≡ Err Cut
      go zero h = absurd (omega arith)
      go (suc k) h = refl

  scan-byte : 0 < left → i < length bytes
      → scan at left limit i (drop i bytes) ≡ (let b = get_or bytes i 0 in choose (ltb b 128) (choose (last b limit (eqb i at)) (Ok (i + 1)) (Err Wrong)) (scan at (left - 1) (limit / 128) (i + 1) (drop (i + 1) bytes)))
  unfolding scan
  scan-byte h g = rw (drop-cons bytes i 0 g) (go left h)
    where
      go : (k : ℕ) → 0 < k → scan at k limit i (get_or bytes i 0 ∷ drop (suc i) bytes)
          ≡ (let b = get_or bytes i 0 in choose (ltb b 128) (choose (last b limit (eqb i at)) (Ok (i + 1)) (Err Wrong)) (scan at (k - 1) (limit / 128) (i + 1) (drop (i + 1) bytes)))
      go zero h = absurd (omega arith)
      go (suc k) h = rw (suc-sub-suc k 0, sub-zero k, add-one i)

  pub scan-last : 0 < left → i < length bytes → get_or bytes i 0 < 128 → scan at left limit i (drop i bytes) ≡ choose (last (get_or bytes i 0) limit (eqb i at)) (Ok (i + 1)) (Err Wrong)
  scan-last h g b = scan-byte h g ∙ rw (lt-ltb _ _ b)

  pub scan-more : 0 < left → i < length bytes → 128 ≤ get_or bytes i 0 → scan at left limit i (drop i bytes) ≡ scan at (left - 1) (limit / 128) (i + 1) (drop (i + 1) bytes)
  scan-more h g b = scan-byte h g ∙ rw (le-ltb _ _ b)

pub was_read : (m : ℕ) (bytes : List ℕ) (at : ℕ) (n : Number) → number_at m bytes at ≡ done n → Read m bytes at n
unfolding number_at
was_read m bytes at n e =
    let a = choose-done (ended (number_of bytes at)) _ _ n e in
    let b = choose-done (leb (value (number_of bytes at)) m && not (padded (number_of bytes at))) _ _ n a.1 in
    let c = both (leb (value (number_of bytes at)) m) _ b.0 in
    record { ends = a.0; slim = not-true _ c.1; fits = leb-true _ _ c.0; shown = sym (same _ n b.1) }

pub is_read : (m : ℕ) (bytes : List ℕ) (at : ℕ) (n : Number) → Read m bytes at n → number_at m bytes at ≡ done n
unfolding number_at
is_read m bytes at n r = rw (r.ends, le-leb _ _ r.fits, r.slim, r.shown)

-- at its start all of it is left
pub rest_all : (bytes : List ℕ) (at : ℕ) (n : Number) → number_at LONG bytes at ≡ done n → Rest (drop at bytes) at 0 1 n.value n.behind
rest_all bytes at n e =
    let r = was_read LONG bytes at n e in
    record { left = LONGEST; ends = r.ends; slim = r.slim; adds = rw r.shown (omega arith); stops = rw r.shown refl }

-- a byte is left
pub rest_some : (bs : List ℕ) (i v scale total behind : ℕ) → Rest bs i v scale total behind → 1 ≤ length bs
unfolding upto ended
rest_some bs i v scale total behind r = go r.left bs r.ends
  where
    go : (k : ℕ) (bs : List ℕ) → ended (upto k bs) ≡ true → 1 ≤ length bs
    go zero bs e = untrue e
    go (suc k) [] e = untrue e
    go (suc k) (b ∷ bs) e = omega arith

-- the last of them
pub rest-last : (b : ℕ) (bs : List ℕ) (i v scale total behind : ℕ) → Rest (b ∷ bs) i v scale total behind → b < 128 → (v + b * scale ≡ total) × (i + 1 ≡ behind)
unfolding upto ended value
rest-last b bs i v scale total behind r h = go r.left r.ends r.adds r.stops
  where
    go : (k : ℕ) → ended (upto k (b ∷ bs)) ≡ true → v + scale * value (upto k (b ∷ bs)) ≡ total → i + length (upto k (b ∷ bs)) ≡ behind → (v + b * scale ≡ total) × (i + 1 ≡ behind)
    go zero e a s = untrue e
    go (suc k) e a s =
        let t = lt-ltb b 128 h in
        let q = rw (t, alone b t, mul_comm scale b) at a in
        (q, rw t at s)

-- where some bytes are left, the last of all is theirs
pub slimmer : (k : ℕ) (bs : List ℕ) → ended (upto k bs) ≡ true → eqb (last_or 1 (upto k bs)) 0 ≡ false → padded (upto k bs) ≡ false
unfolding upto ended last_or
slimmer zero bs e l = untrue e
slimmer (suc k) [] e l = untrue e
slimmer (suc k) (b ∷ bs) e l = go (ltb b 128) e l
  where
    theirs : (w : List ℕ) → ended w ≡ true → eqb (last_or b w) 0 ≡ false → eqb (last_or 1 w) 0 ≡ false
    theirs [] e l = untrue e
    theirs (x ∷ xs) e l = l

    go : (t : Bool) → (t || ended (choose t [] (upto k bs))) ≡ true → eqb (last_or b (choose t [] (upto k bs))) 0 ≡ false → eqb (last_or 1 (choose t [] (upto k bs))) 0 ≡ false
    go true e l = refl
    go false e l = theirs (upto k bs) e l

-- one with others behind it
pub rest_more : (b : ℕ) (bs : List ℕ) (i v scale total behind : ℕ) → Rest (b ∷ bs) i v scale total behind → 128 ≤ b → 1 ≤ scale
    → Rest bs (i + 1) (v + b % 128 * scale) (scale * 128) total behind × (v + b % 128 * scale ≤ total) × (scale * 128 ≤ total)
unfolding upto ended value last_or
rest_more b bs i v scale total behind r h p = go r.left r.ends r.slim r.adds r.stops
  where
    go : (k : ℕ) → ended (upto k (b ∷ bs)) ≡ true → padded (upto k (b ∷ bs)) ≡ false → v + scale * value (upto k (b ∷ bs)) ≡ total → i + length (upto k (b ∷ bs)) ≡ behind
        → Rest bs (i + 1) (v + b % 128 * scale) (scale * 128) total behind × (v + b % 128 * scale ≤ total) × (scale * 128 ≤ total)
    go zero e l a s = untrue e
    go (suc k) e l a s =
        let t = le-ltb b 128 h in
        let e' : ended (upto k bs) ≡ true = rw t at e in
        let l' : eqb (last_or 1 (upto k bs)) 0 ≡ false = rw t at l in
        let a' : v + scale * (b % 128 + 128 * value (upto k bs)) ≡ total = rw t at a in
        let s' : i + suc (length (upto k bs)) ≡ behind = rw t at s in
        let n = lasting k bs 1 e' l' in
        let w = value (upto k bs) in
        let c : scale * (b % 128 + 128 * w) ≡ b % 128 * scale + scale * 128 * w = mul-add scale (b % 128) (128 * w) ∙ ap₂ (λ x y. x + y) (mul_comm scale (b % 128)) (sym (mul_assoc scale 128 w)) in
        let m : scale * 128 * 1 ≤ scale * 128 * w = mul-le-mul_left (scale * 128) n in (
          record { left = k; ends = e'; slim = slimmer k bs e' l'; adds = omega (arith, a', c); stops = omega (arith, s') },
          omega (arith, a', c),
          omega (arith, a', c, m),
        )

-- the same by the place of a byte
module _ (bytes : List ℕ) (i v scale total behind : ℕ) (r : Rest (drop i bytes) i v scale total behind) where
  pub byte_left : i < length bytes
  byte_left = let h = rest_some _ i v scale total behind r in omega (arith, length-drop i bytes)

  abbrev here : Rest (get_or bytes i 0 ∷ drop (i + 1) bytes) i v scale total behind
  here = subst (λ (l : List ℕ). Rest l i v scale total behind) (drop-cons bytes i 0 byte_left ∙ ap (λ j. get_or bytes i 0 ∷ drop j bytes) (sym (add-one i))) r

  pub byte-ends : get_or bytes i 0 < 128 → (v + get_or bytes i 0 * scale ≡ total) × (i + 1 ≡ behind)
  byte-ends h = rest-last _ _ i v scale total behind here h

  pub byte-goes : 128 ≤ get_or bytes i 0 → 1 ≤ scale
      → Rest (drop (i + 1) bytes) (i + 1) (v + get_or bytes i 0 % 128 * scale) (scale * 128) total behind × (v + get_or bytes i 0 % 128 * scale ≤ total) × (scale * 128 ≤ total)
  byte-goes h p = rest_more _ _ i v scale total behind here h p

pub read_fits : (m : ℕ) (bytes : List ℕ) (at : ℕ) (n : Number) → number_at m bytes at ≡ done n → n.value ≤ m
read_fits m bytes at n e = let r = was_read m bytes at n e in rw r.shown r.fits

-- a number of some width is one of any wider
pub wider : (m k : ℕ) (bytes : List ℕ) (at : ℕ) (n : Number) → m ≤ k → number_at m bytes at ≡ done n → number_at k bytes at ≡ done n
wider m k bytes at n h e = let r = was_read m bytes at n e in is_read k bytes at n record { ends = r.ends; slim = r.slim; fits = let f = r.fits in omega (arith, f); shown = r.shown }

-- A number that stands at a place, where the bytes before one of its own were read: these said so much, and those from it on say what is
-- missing, times a scale.
pub record Reading (bytes : List ℕ) (at i v scale : ℕ) : Type 0 where
  pub number : Number
  pub found : number_at LONG bytes at ≡ done number
  pub rest : Rest (drop i bytes) i v scale number.value number.behind
  pub scaled : 1 ≤ scale

pub reading_all : (bytes : List ℕ) (at : ℕ) → Stands bytes at → Reading bytes at at 0 1
reading_all bytes at s = let n = fine-value _ s in record { number = n.0; found = n.1; rest = rest_all _ _ _ n.1; scaled = omega arith }

-- a byte is left; the last one; one with others behind it
module _ {bytes : List ℕ} {at i v scale : ℕ} (h : Reading bytes at i v scale) where
  pub reading_some : i < length bytes
  reading_some = byte_left bytes i v scale _ _ h.rest

  pub reading_ends : get_or bytes i 0 < 128
      → (v + get_or bytes i 0 * scale ≤ LONG) × (number_at LONG bytes at ≡ done (record { value = v + get_or bytes i 0 * scale; behind = i + 1 }))
  reading_ends b =
      let e = byte-ends bytes i v scale _ _ h.rest b in
      let f = read_fits LONG bytes at h.number h.found in
      (omega (arith, e.0, f), h.found ∙ ap₂ (λ v b. done record { value = v; behind = b }) (sym e.0) (sym e.1))

  pub reading_goes : 128 ≤ get_or bytes i 0
      → (v + get_or bytes i 0 % 128 * scale ≤ LONG) × (scale * 128 ≤ LONG) × Reading bytes at (i + 1) (v + get_or bytes i 0 % 128 * scale) (scale * 128)
  reading_goes b =
      let g = byte-goes bytes i v scale _ _ h.rest b h.scaled in
      let f = read_fits LONG bytes at h.number h.found in
      let s = h.scaled in
      (omega (arith, g.1, f), omega (arith, g.2, f), record { number = h.number; found = h.found; rest = g.0; scaled = omega (arith, s) })

-- what passing a number tells of it
pub passed_to : (m : ℕ) (bytes : List ℕ) (at next : ℕ) → Ok next ≡ passed (number_at m bytes at) → (n : Number) × (number_at m bytes at ≡ done n) × (n.behind ≡ next)
passed_to m bytes at next e = go (number_at m bytes at) refl e
  where
    go : (o : Outcome Number) → number_at m bytes at ≡ o → Ok next ≡ passed o → (n : Number) × (number_at m bytes at ≡ done n) × (n.behind ≡ next)
    go (done n) o e = (n, o, cc)
    go (refused r) o e = absurd (let z : ◌≡◌ {A = ℕ} 0 1 = cc in omega arith)

pub passed-not : (m : ℕ) (bytes : List ℕ) (at : ℕ) (f : Fault) → Err f ≡ passed (number_at m bytes at) → number_at m bytes at ≡ refused (fault (code f) at)
unfolding number_at
passed-not m bytes at f e = go (ended (number_of bytes at)) (leb (value (number_of bytes at)) m && not (padded (number_of bytes at))) (eqb (length (number_of bytes at)) LONGEST) e
  where
    n : Number
    n = record { value = value (number_of bytes at); behind = at + length (number_of bytes at) }

    as_coded : (c : ℕ) → code (coded c) ≡ c → Err f ≡ passed (refused (fault c at))
        → ◌≡◌ {A = Outcome Number} (refused (fault c at)) (refused (fault (code f) at))
    as_coded c h e = let g : f ≡ coded c = cc in ap (λ c. refused (fault c at)) (sym (ap code g ∙ h))

    go : (s t b : Bool) → Err f ≡ passed (choose s (choose t (done n) (refused (fault 16 at))) (refused (fault (choose b 16 15) at)))
        → choose s (choose t (done n) (refused (fault 16 at))) (refused (fault (choose b 16 15) at)) ≡ refused (fault (code f) at)
    go true true b e = absurd (let z : ◌≡◌ {A = ℕ} 0 1 = cc in omega arith)
    go true false b e = as_coded 16 refl e
    go false t true e = as_coded 16 refl e
    go false t false e = as_coded 15 refl e

-- the widths' largest numbers have only ones, and none is past 64 bits
pub most-ones : (w : Width) → ones LONGEST (most w) ≡ true
unfolding ones
most-ones Byte = refl
most-ones Half = refl
most-ones Word = refl
most-ones Long = refl

pub most-long : (w : Width) → most w ≤ LONG
most-long Byte = omega arith
most-long Half = omega arith
most-long Word = omega arith
most-long Long = omega arith
