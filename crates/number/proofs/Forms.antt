-- What holds of the coder: each number below 2⁶⁴ has a form; what is written reads back, whatever follows; no two byte strings read as the
-- same number.
use Rattle.std.specs.Prelude.{ℕ, zero, suc, ◌+◌, ◌*◌, ◌/◌, ◌%◌, ◌≤◌, ◌<◌, ◌≡◌, refl, Bool, true, false, ◌||◌, List, [], ◌∷◌, ◌++◌, length, drop, set, ltb, eqb}
use Rattle.std.proofs.Common.{ap, ap₂, sym, ◌∙◌, append-nil, arith, drop-drop, ltb-true, ltb-false, le-ltb, lt-ltb, ne_eqb}
use Rattle.std.proofs.Math.Seq.{drop-append_seam, drop-length}
use Rattle.blob.specs.Reading.{done, choose}
use Rattle.blob.specs.Places.{Each}
use Rattle.blob.specs.Laid.{laid}
use Rattle.number.specs.Number.{LONGEST, LONG, form_of, form, upto, ended, value, last_or, padded, number_at}
use Rattle.number.specs.Scan.{number_of}
use Rattle.number.proofs.Scan.{untrue, alone, lasting, slimmer, was_read, is_read}
use Rattle.number.specs.declared.Number.{Number}

-- whether a number, and so each below it, has a form of at most so many bytes
unfoldable enough : ℕ → ℕ → Bool
enough zero m = false
enough (suc k) m = ltb m 128 || enough k (m / 128)

-- "every number below 2⁶⁴ has a form": its bytes end with a last one
ends : (k m n : ℕ) → enough k m ≡ true → n ≤ m → ended (form_of k n) ≡ true
unfolding enough ended form_of
ends zero m n e h = untrue e
ends (suc k) m n e h = go (ltb n 128) refl (ltb m 128) refl (λ e. ends k (m / 128) (n / 128) e (omega arith)) e
  where
    go : (t : Bool) → ltb n 128 ≡ t → (s : Bool) → ltb m 128 ≡ s → (enough k (m / 128) ≡ true → ended (form_of k (n / 128)) ≡ true) → (s || enough k (m / 128)) ≡ true
        → ended (choose t (n ∷ []) ((128 + n % 128) ∷ form_of k (n / 128))) ≡ true
    go true t s' s ih e = rw t
    go false t true s ih e = absurd (let a = ltb-false n 128 t in let b = ltb-true m 128 s in omega (arith, a, b, h))
    go false t false s ih e = rw (le-ltb (128 + n % 128) 128 (omega arith)) (ih e)

pub has-form : (n : ℕ) → n ≤ LONG → ended (form n) ≡ true
unfolding enough
has-form n h = ends LONGEST LONG n refl h

-- the form says its number, ends where it ends, and is not padded
pub says : (k n : ℕ) → ended (form_of k n) ≡ true → value (form_of k n) ≡ n
unfolding form_of ended value
says zero n e = untrue e
says (suc k) n e = go (ltb n 128) refl (says k (n / 128)) e
  where
    go : (t : Bool) → ltb n 128 ≡ t → (ended (form_of k (n / 128)) ≡ true → value (form_of k (n / 128)) ≡ n / 128)
        → ended (choose t (n ∷ []) ((128 + n % 128) ∷ form_of k (n / 128))) ≡ true → value (choose t (n ∷ []) ((128 + n % 128) ∷ form_of k (n / 128))) ≡ n
    go true t ih e = let q = ltb-true n 128 t in omega (arith, q)
    go false t ih e = let g : ended (form_of k (n / 128)) ≡ true = rw (le-ltb (128 + n % 128) 128 (omega arith)) at e in rw (ih g) (omega arith)

pub stops : (k n : ℕ) (rest : List ℕ) → ended (form_of k n) ≡ true → upto k (form_of k n ++ rest) ≡ form_of k n
unfolding form_of ended upto
stops zero n rest e = untrue e
stops (suc k) n rest e = go (ltb n 128) refl (stops k (n / 128) rest) e
  where
    go : (t : Bool) → ltb n 128 ≡ t → (ended (form_of k (n / 128)) ≡ true → upto k (form_of k (n / 128) ++ rest) ≡ form_of k (n / 128))
        → ended (choose t (n ∷ []) ((128 + n % 128) ∷ form_of k (n / 128))) ≡ true
        → upto (suc k) (choose t (n ∷ []) ((128 + n % 128) ∷ form_of k (n / 128)) ++ rest) ≡ choose t (n ∷ []) ((128 + n % 128) ∷ form_of k (n / 128))
    go true t ih e = rw t
    go false t ih e = let q = le-ltb (128 + n % 128) 128 (omega arith) in rw q (ap (λ (l : List ℕ). (128 + n % 128) ∷ l) (ih (rw q at e)))

-- the last byte of a form of another number than 0 is not zero
high : (k n d : ℕ) → ended (form_of k n) ≡ true → 1 ≤ n → eqb (last_or d (form_of k n)) 0 ≡ false
unfolding form_of ended last_or
high zero n d e h = untrue e
high (suc k) n d e h = go (ltb n 128) refl (high k (n / 128) (128 + n % 128)) e
  where
    go : (t : Bool) → ltb n 128 ≡ t → (ended (form_of k (n / 128)) ≡ true → 1 ≤ n / 128 → eqb (last_or (128 + n % 128) (form_of k (n / 128))) 0 ≡ false)
        → ended (choose t (n ∷ []) ((128 + n % 128) ∷ form_of k (n / 128))) ≡ true → eqb (last_or d (choose t (n ∷ []) ((128 + n % 128) ∷ form_of k (n / 128)))) 0 ≡ false
    go true t ih e = ne_eqb n 0 (λ z. omega arith)
    go false t ih e = let q = ltb-false n 128 t in ih (rw (le-ltb (128 + n % 128) 128 (omega arith)) at e) (omega (arith, q))

pub slim : (k n : ℕ) → ended (form_of k n) ≡ true → padded (form_of k n) ≡ false
unfolding form_of ended last_or
slim zero n e = untrue e
slim (suc k) n e = go (ltb n 128) refl e
  where
    go : (t : Bool) → ltb n 128 ≡ t → ended (choose t (n ∷ []) ((128 + n % 128) ∷ form_of k (n / 128))) ≡ true → padded (choose t (n ∷ []) ((128 + n % 128) ∷ form_of k (n / 128))) ≡ false
    go true t e = refl
    go false t e = let q = ltb-false n 128 t in high k (n / 128) 1 (rw (le-ltb (128 + n % 128) 128 (omega arith)) at e) (omega (arith, q))

-- "what was written reads back the same", whatever stands before and behind it
pub reads_back : (most n : ℕ) (before rest : List ℕ) → n ≤ most → most ≤ LONG
    → number_at most (before ++ (form n ++ rest)) (length before) ≡ done (record { value = n; behind = length before + length (form n) })
reads_back most n before rest h g =
    let e = has-form n (omega arith) in
    let s : number_of (before ++ (form n ++ rest)) (length before) ≡ form n = ap (upto LONGEST) (drop-append_seam before (form n ++ rest)) ∙ stops LONGEST n rest e in
    let v = says LONGEST n e in
    is_read most _ (length before) _ record { ends = rw s e; slim = rw s (slim LONGEST n e); fits = rw (s, v) h; shown = rw (s, v) refl }

each_drop : (P : ℕ → Type 0) (n : ℕ) (l : List ℕ) → Each P l → Each P (drop n l)
each_drop P zero l a = a
each_drop P (suc n) [] a = a
each_drop P (suc n) (x ∷ l) a = each_drop P n l a.1

-- bytes up to a last one, and those behind it
upto-then : (k : ℕ) (bs : List ℕ) → bs ≡ upto k bs ++ drop (length (upto k bs)) bs
unfolding upto
upto-then zero bs = refl
upto-then (suc k) [] = refl
upto-then (suc k) (b ∷ bs) = ap (λ (l : List ℕ). b ∷ l) (go (ltb b 128) (upto-then k bs))
  where
    go : (t : Bool) → bs ≡ upto k bs ++ drop (length (upto k bs)) bs → bs ≡ choose t [] (upto k bs) ++ drop (length (choose t [] (upto k bs))) bs
    go true ih = refl
    go false ih = ih

-- bytes that are a number are the form of what they say
formed : (k : ℕ) (bs : List ℕ) → Each (λ b. b < 256) bs → ended (upto k bs) ≡ true → padded (upto k bs) ≡ false → form_of k (value (upto k bs)) ≡ upto k bs
unfolding form_of upto ended value last_or
formed zero bs a e l = untrue e
formed (suc k) [] a e l = untrue e
formed (suc k) (b ∷ bs) a e l = go (ltb b 128) refl (λ e l. formed k bs a.1 e (slimmer k bs e l)) e l
  where
    go : (t : Bool) → ltb b 128 ≡ t → (ended (upto k bs) ≡ true → eqb (last_or 1 (upto k bs)) 0 ≡ false → form_of k (value (upto k bs)) ≡ upto k bs)
        → (t || ended (choose t [] (upto k bs))) ≡ true → eqb (last_or 1 (choose t [] (upto k bs))) 0 ≡ false
        → (let v = b % 128 + 128 * value (choose t [] (upto k bs)) in choose (ltb v 128) (v ∷ []) ((128 + v % 128) ∷ form_of k (v / 128))) ≡ b ∷ choose t [] (upto k bs)
    go true t ih e l = rw (alone b t, t)
    go false t ih e l =
        let v = b % 128 + 128 * value (upto k bs) in
        let n = lasting k bs 1 e l in
        let q = ltb-false b 128 t in
        let h = a.0 in
        let c : 128 + v % 128 ≡ b = omega (arith, q, h) in
        let d : v / 128 ≡ value (upto k bs) = omega arith in
        rw (le-ltb v 128 (omega (arith, n)), c, d) (ap (λ (l : List ℕ). b ∷ l) (ih e l))

-- what is read stands there in its form
pub was_written : (most : ℕ) (bytes : List ℕ) (at : ℕ) (n : Number) → Each (λ b. b < 256) bytes → number_at most bytes at ≡ done n
    → drop at bytes ≡ form n.value ++ drop n.behind bytes
was_written most bytes at n a e =
    let r = was_read most bytes at n e in
    upto-then LONGEST (drop at bytes)
    ∙ ap₂ (λ (x y : List ℕ). x ++ y) (sym (formed LONGEST (drop at bytes) (each_drop (λ b. b < 256) at bytes a) r.ends r.slim) ∙ ap (λ (n : Number). form n.value) (sym r.shown))
    (drop-drop (length (number_of bytes at)) at bytes ∙ ap (λ (n : Number). drop n.behind bytes) (sym r.shown))

-- "no two byte strings read as the same number"
pub one_form : (most : ℕ) (s t : List ℕ) (a b : Number) → Each (λ b. b < 256) s → Each (λ b. b < 256) t → number_at most s 0 ≡ done a → number_at most t 0 ≡ done b
    → a.behind ≡ length s → b.behind ≡ length t → a.value ≡ b.value → s ≡ t
one_form most s t a b x y e g h i v = whole s a x e h ∙ ap form v ∙ sym (whole t b y g i)
  where
    whole : (s : List ℕ) (a : Number) → Each (λ b. b < 256) s → number_at most s 0 ≡ done a → a.behind ≡ length s → s ≡ form a.value
    whole s a x e h = was_written most s 0 a x e ∙ ap (λ n. form a.value ++ drop n s) h ∙ ap (λ (l : List ℕ). form a.value ++ l) (drop-length s) ∙ append-nil _

-- the bytes of a number that are left, of some: the last one, and one with others behind it
pub record Left (n : ℕ) (bs : List ℕ) : Type 0 where
  pub most : ℕ
  pub ends : ended (form_of most n) ≡ true
  pub formed : form_of most n ≡ bs

pub left-all : (n : ℕ) → n ≤ LONG → Left n (form n)
left-all n h = record { most = LONGEST; ends = has-form n h; formed = refl }

pub left-last : (n : ℕ) (bs : List ℕ) → Left n bs → n < 128 → bs ≡ n ∷ []
unfolding form_of ended
left-last n bs l h = sym l.formed ∙ go l.most l.ends
  where
    go : (k : ℕ) → ended (form_of k n) ≡ true → form_of k n ≡ n ∷ []
    go zero e = untrue e
    go (suc k) e = rw (lt-ltb n 128 h)

pub left-more : (n : ℕ) (bs : List ℕ) → Left n bs → 128 ≤ n → (vs : List ℕ) × (bs ≡ (128 + n % 128) ∷ vs) × Left (n / 128) vs
unfolding form_of ended
left-more n bs l h = go l.most l.ends l.formed
  where
    go : (k : ℕ) → ended (form_of k n) ≡ true → form_of k n ≡ bs → (vs : List ℕ) × (bs ≡ (128 + n % 128) ∷ vs) × Left (n / 128) vs
    go zero e f = untrue e
    go (suc k) e f =
        let q = le-ltb n 128 h in (
          form_of k (n / 128),
          sym f ∙ rw q,
          record { most = k; ends = rw (q, le-ltb (128 + n % 128) 128 (omega arith)) at e; formed = refl },
        )

-- What is left of a number's bytes, where so many with the next one were counted.
pub record Sizing (number rest n : ℕ) : Type 0 where
  pub bytes : List ℕ
  pub left : Left rest bytes
  pub counted : n + length bytes ≡ length (form number) + 1

pub sizing_all : (n : ℕ) → n ≤ LONG → Sizing n n 1
sizing_all n h = record { bytes = form n; left = left-all n h; counted = omega arith }

module _ {number rest n : ℕ} (h : Sizing number rest n) where
  pub sizing_ends : rest < 128 → n ≡ length (form number)
  sizing_ends l = let e = ap length (left-last _ _ h.left l) in let k = h.counted in omega (arith, e, k)

  pub sizing_goes : 128 ≤ rest → Sizing number (rest / 128) (n + 1)
  sizing_goes l =
      let m = left-more _ _ h.left l in
      let e = ap length m.1 in
      let k = h.counted in
      record { bytes = m.0; left = m.2; counted = omega (arith, e, k) }

-- What is left to store of them: laid from here, it makes the whole.
pub record Storing (lent : List ℕ) (at number rest : ℕ) (now : List ℕ) (i : ℕ) : Type 0 where
  pub bytes : List ℕ
  pub left : Left rest bytes
  pub ends : i + length bytes ≡ at + length (form number)
  pub whole : laid now i bytes ≡ laid lent at (form number)

pub storing_all : (lent : List ℕ) (at n : ℕ) → n ≤ LONG → Storing lent at n n lent at
storing_all lent at n h = record { bytes = form n; left = left-all n h; ends = refl; whole = refl }

module _ {lent : List ℕ} {at number rest : ℕ} {now : List ℕ} {i : ℕ} (h : Storing lent at number rest now i) where
  pub storing_ends : rest < 128 → (i + 1 ≡ at + length (form number)) × (set now i rest ≡ laid lent at (form number))
  unfolding laid
  storing_ends l =
      let b = left-last _ _ h.left l in
      let e = ap length b in
      let k = h.ends in
      (omega (arith, e, k), sym (ap (laid now i) b) ∙ h.whole)

  pub storing_goes : 128 ≤ rest → (i + 1 ≤ at + length (form number)) × Storing lent at number (rest / 128) (set now i (128 + rest % 128)) (i + 1)
  unfolding laid
  storing_goes l =
      let m = left-more _ _ h.left l in
      let e = ap length m.1 in
      let k = h.ends in
      (omega (arith, e, k), record { bytes = m.0; left = m.2; ends = omega (arith, e, k); whole = sym (ap (laid now i) m.1) ∙ h.whole })

-- no form is longer than ten bytes
pub form-short : (k n : ℕ) → length (form_of k n) ≤ k
unfolding form_of
form-short zero n = omega arith
form-short (suc k) n = go (ltb n 128) (form-short k (n / 128))
  where
    go : (t : Bool) → length (form_of k (n / 128)) ≤ k → length (choose t (n ∷ []) ((128 + n % 128) ∷ form_of k (n / 128))) ≤ suc k
    go true h = omega arith
    go false h = omega arith
