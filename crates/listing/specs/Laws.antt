-- Laws of rendering.
use Rattle.std.specs.Prelude.{ℕ, zero, suc, ◌+◌, ◌*◌, ◌/◌, ◌%◌, ◌^◌, ◌-◌, ◌≤◌, ◌<◌, ◌≡◌, refl, Bool, true, false, List, [], ◌∷◌, ◌++◌, length, leb}
use Rattle.std.proofs.Common.{ap, sym, ◌∙◌, arith, pow-suc, length-append, lt-ltb, le-ltb, leb-true, leb-false}
use Rattle.std.proofs.Math.Nat.{pow-le-pow_right}
use Rattle.std.proofs.Math.Numerals.{unary_clauses}
use Rattle.io.specs.Digits as io
use Rattle.blob.specs.Laid.{laid, laid_more, flat}
use Rattle.format.specs.Area.{TEMPLATES, width}
use Rattle.listing.specs.Rendered.{digits, decimal, line, rendered}
use Rattle.listing.specs.Put.{Put, line_at, lines_from}

-- one behind the other
pub put_behind : {a b c : List ℕ} {at p q : ℕ} {s t : List ℕ} → Put a at s p b → Put b p t q c → Put a at (s ++ t) q c
put_behind {a} {b} {c} {at} {p} {q} {s} {t} f g =
    record {
      ends = simp length-append (omega (arith, f.ends, g.ends));
      holds = g.holds ∙ ap (λ n. laid b n t) f.ends ∙ ap (λ (l : List ℕ). laid l (at + length s) t) f.holds ∙ sym (laid_more a at s t);
    }

-- the fewest digits that hold a number are its digits
spelled : (k most n : ℕ) → n < most → n < 10 ^ suc k → (1 ≤ k → 10 ^ k ≤ n) → io.last_digits 10 (suc k) n ≡ digits most n
unfolding digits
spelled k zero n h l g = absurd (omega arith)
spelled zero (suc most) n h l g =
    let m : n % 10 ≡ n = omega arith in
    rw (m, lt-ltb n 10 (omega arith))
spelled (suc k) (suc most) n h l g =
    let least : 10 ^ k * 10 ≤ n = rw (pow-suc 10 k) at (g (omega arith)) in
    let over : n < 10 ^ suc k * 10 = rw (pow-suc 10 (suc k)) at l in
    let two : 10 ≤ n = omega (arith, least) in
    let rest = spelled k most (n / 10) (omega arith) (omega (arith, over)) (λ x. omega (arith, least)) in
    rw (le-ltb n 10 two, lt-ltb (n % 10) 10 (omega arith)) (ap (λ (l : List ℕ). l ++ ((48 + n % 10) ∷ [])) rest)

pub fewest : (n k : ℕ) → io.IsDigitCount 10 1 n k → io.last_digits 10 k n ≡ decimal n
fewest n zero f = absurd (omega (arith, f.0))
fewest n (suc k) f = spelled k (suc n) n (omega arith) f.1 (λ h. simp unary_clauses at (f.2 (omega arith)))

-- 64 bits hold no number of more than 20 digits
pub twenty : (n k : ℕ) → n < 2 ^ 64 → io.IsDigitCount 10 1 n k → k ≤ 20
twenty n k h f = go (leb k 20) refl
  where
    go : (t : Bool) → leb k 20 ≡ t → k ≤ 20
    go true e = leb-true k 20 e
    go false e =
        let more : 20 < k = leb-false k 20 e in
        let p : 10 ^ 20 ≤ 10 ^ (k - 1) = pow-le-pow_right (omega arith) {i = 20} (omega arith) in
        omega (arith, f.2 (omega arith))

-- the line of the i-th of n entries, and those of the entries behind it
pub lines_next : (words : List ℕ) (n i at : ℕ) → i < n
    → rendered (lines_from words (n - i) (at + width TEMPLATES * i))
    ≡ line (line_at words (at + width TEMPLATES * i)) ++ rendered (lines_from words (n - (i + 1)) (at + width TEMPLATES * (i + 1)))
unfolding lines_from flat
lines_next words n i at h =
    let e : n - i ≡ suc (n - (i + 1)) = omega arith in
    let f : at + width TEMPLATES * i + width TEMPLATES ≡ at + width TEMPLATES * (i + 1) = omega arith in
    ap (λ n. rendered (lines_from words n (at + width TEMPLATES * i))) e
    ∙ ap (λ p. line (line_at words (at + width TEMPLATES * i)) ++ rendered (lines_from words (n - (i + 1)) p)) f

pub lines_none : (words : List ℕ) (n i at : ℕ) → n ≤ i → rendered (lines_from words (n - i) at) ≡ []
unfolding lines_from flat
lines_none words n i at h = let e : n - i ≡ 0 = omega arith in ap (λ n. rendered (lines_from words n at)) e

-- nothing put
pub put_none : {a : List ℕ} {at : ℕ} → Put a at [] at a
unfolding laid
put_none {a} {at} = record { ends = omega arith; holds = refl }
