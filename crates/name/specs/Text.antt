-- What one unit makes of the rest of a text, a law for each kind of unit.
use Prim.Native.Nat.{ℕ, zero, suc, ◌+◌, ◌-◌, ◌%◌, ◌≤◌, ◌<◌}
use Rattle.std.specs.Prelude.{◌≡◌, List, Bool, ◌&&◌, leb, eqb, Ok, Option, Some, None, IsSome}
use Rattle.std.proofs.Math.Path.{refl, ap}
use Rattle.std.proofs.Common.{rules, ◌∙◌}
use Rattle.std.proofs.Math.Bool.{true, false}
use native.Mathlib.Omega.{arith}
use Rattle.std.proofs.Math.Dec.{ltb, leb-suc-suc}
use borrow.Author.Tests.{le-leb, lt-leb, lt-ltb, le-ltb, eq-eqb, ne_eqb, ltb-true, ltb-false}
use Rattle.blob.specs.Le.{le}
use Rattle.blob.proofs.Laws.{not_fine, run-number}
use Rattle.blob.specs.Reading.{Outcome, stop, done, refused, choose, demand, run, verdict}
use Rattle.format.specs.Refuse.{not_utf16}
use Rattle.format.specs.Name.{high, low, text}
use Rattle.format.specs.declared.Name.{Name}

-- whether what is a surrogate is a high one with a low one behind it
abbrev pub pairs : List ℕ → ℕ → ℕ → Bool
pairs s at left = ltb (le 2 s at) 0xDC00 && (ltb 1 left && low (le 2 s (at + 2)))

-- one less than a unit; for the zero unit, more than all others together
unfoldable pub below : ℕ → ℕ
below zero = 0xFFFFFFFF
below (suc u) = u

-- the sum of four units from a place on, each one less
abbrev pub lows : List ℕ → ℕ → ℕ
lows s at = ((below (le 2 s at) + below (le 2 s (at + 2))) + below (le 2 s (at + 4))) + below (le 2 s (at + 6))

-- what a text is by how many of its n units stand before its zero unit; where there is no such number, it is none
abbrev pub texted : (f o n : ℕ) → Option ℕ → Outcome Name
texted f o n (Some r) = done (record { start = o + 4; units = r; ended = ltb r n })
texted f o n None = refused ((not_utf16 f o).told 0)

pub texted-fine : (f o n : ℕ) (r : Option ℕ) → verdict (texted f o n r) ≡ Ok tt → IsSome r
texted-fine f o n (Some r) v = search rules
texted-fine f o n None v = absurd (not_fine _ v)

-- a unit within two bounds, below the first, and past the second
module _ (a b u : ℕ) where
  pub between : a ≤ u → u < b → (leb a u && ltb u b) ≡ true
  between h g = rw (le-leb _ _ h, lt-ltb _ _ g)

  pub under : u < a → (leb a u && ltb u b) ≡ false
  under h = rw (lt-leb _ _ h)

  pub above : a ≤ b → b ≤ u → (leb a u && ltb u b) ≡ false
  above g h = let k : a ≤ u = omega arith in rw (le-leb _ _ k, le-ltb _ _ h)

-- how many are left, as a successor
more : {left : ℕ} → 0 < left → left ≡ suc (left - 1)
more h = omega arith

-- a unit that is not 0
nonzero : {u : ℕ} → 0 < u → eqb u 0 ≡ false
nonzero {u} h = ne_eqb u 0 (λ q. omega arith)

module _ (f o : ℕ) (s : List ℕ) (left at k : ℕ) where
  pub text-none : (n : ℕ) → n ≡ k → left ≤ 0 → run (text f o left at k false) s ≡ texted f o n (Some n)
  unfolding text run demand
  text-none n g h = let e : left ≡ 0 = omega arith in rw (e, g, le-ltb k k (omega arith))

  pub text-zero : (n : ℕ) → k < n → 0 < left → le 2 s at ≡ 0 → run (text f o left at k false) s ≡ texted f o n (Some k)
  unfolding text run
  text-zero n g h z = ap (λ m. run (text f o m at k false) s) (more h) ∙ rw (run-number, eq-eqb _ _ z, lt-ltb k n g)

  -- a unit that is not 0 and no surrogate
  passed : (left' k' : ℕ) → left ≡ suc left' → k' ≡ k + 1 → 0 < le 2 s at → low (le 2 s at) ≡ false → high (le 2 s at) ≡ false
      → run (text f o left at k false) s ≡ run (text f o left' (at + 2) k' false) s
  unfolding text demand
  passed left' k' e g z l h = rw (e, g, run-number, nonzero z, l, h)

  pub text-below : (left' k' : ℕ) → left ≡ suc left' → k' ≡ k + 1 → 0 < le 2 s at → le 2 s at < 0xD800
      → run (text f o left at k false) s ≡ run (text f o left' (at + 2) k' false) s
  text-below left' k' e g z h = passed left' k' e g z (under 0xDC00 _ (le 2 s at) (omega arith)) (under _ _ _ h)

  pub text-above : (left' k' : ℕ) → left ≡ suc left' → k' ≡ k + 1 → 0xE000 ≤ le 2 s at
      → run (text f o left at k false) s ≡ run (text f o left' (at + 2) k' false) s
  text-above left' k' e g h = passed left' k' e g (omega arith) (above 0xDC00 _ _ (omega arith) h) (above 0xD800 0xDC00 (le 2 s at) (omega arith) (omega arith))

-- what follows a surrogate: the text behind the pair, or the refusal
unfoldable after : (f o : ℕ) → List ℕ → (left at k : ℕ) → Bool → Outcome Name
after f o s left at k p = choose p (run (text f o left at k false) s) (refused ((not_utf16 f o).told 0))

module _ (f o : ℕ) (s : List ℕ) where
  -- behind a high surrogate
  low-waits : (left at k : ℕ) → run (text f o left at k true) s ≡ after f o s (left - 1) (at + 2) (k + 1) (ltb 0 left && low (le 2 s at))
  unfolding text demand after run
  low-waits zero at k = refl
  low-waits (suc left) at k =
      let e : suc left - 1 ≡ left = omega arith in
      rw (run-number, e, lt-ltb 0 (suc left) (omega arith)) (go (low (le 2 s at)))
    where
      go : (t : Bool) → run (choose t (text f o left (at + 2) (k + 1) false) (stop (not_utf16 f o))) s ≡ choose t (run (text f o left (at + 2) (k + 1) false) s) (refused ((not_utf16 f o).told 0))
      go true = refl
      go false = refl

  text-surrogate : (left at k : ℕ) → 0 < left → 0xD800 ≤ le 2 s at → le 2 s at < 0xE000
      → run (text f o left at k false) s ≡ after f o s (left - 2) (at + 4) (k + 2) (pairs s at left)
  unfolding text demand run after
  text-surrogate zero at k h d g = absurd (omega arith)
  text-surrogate (suc left) at k h d g = go (ltb (le 2 s at) 0xDC00) refl
    where
      go : (t : Bool) → ltb (le 2 s at) 0xDC00 ≡ t
          → run (text f o (suc left) at k false) s ≡ after f o s (suc left - 2) (at + 4) (k + 2) (t && (ltb 1 (suc left) && low (le 2 s (at + 2))))
      go true e =
          let h : le 2 s at < 0xDC00 = ltb-true _ _ e in
          let l : suc left - 2 ≡ left - 1 = omega arith in
          let p : (at + 2) + 2 ≡ at + 4 = omega arith in
          let q : (k + 1) + 1 ≡ k + 2 = omega arith in
          rw (run-number, nonzero {u = le 2 s at} (omega arith), under _ _ _ h, between _ _ _ d h, low-waits left (at + 2) (k + 1), l, p, q, leb-suc-suc 1 left)
      go false e = rw (run-number, nonzero {u = le 2 s at} (omega arith), between _ _ _ (ltb-false _ _ e) g)

  module _ (left at k : ℕ) (h : 0 < left) (d : 0xD800 ≤ le 2 s at) (g : le 2 s at < 0xE000) where
    pub text-pair : (k' : ℕ) → k' ≡ k + 2 → pairs s at left ≡ true → run (text f o left at k false) s ≡ run (text f o (left - 2) (at + 4) k' false) s
    unfolding after
    text-pair k' e p = text-surrogate left at k h d g ∙ rw (p, e)

    pub text-unpaired : (n : ℕ) → pairs s at left ≡ false → run (text f o left at k false) s ≡ texted f o n None
    unfolding after
    text-unpaired n p = text-surrogate left at k h d g ∙ rw p

-- a pair is two units
pub pairs-two : (s : List ℕ) (at left : ℕ) → pairs s at left ≡ true → 1 < left
pairs-two s at left p = ltb-true _ _ (second (ltb (le 2 s at) 0xDC00) _ _ p)
  where
    second : (a b c : Bool) → (a && (b && c)) ≡ true → b ≡ true
    second a true c p = refl
    second true false c p = p
    second false false c p = p

-- how it is computed
pub less : (u : ℕ) → u ≤ 0xFFFFFFFF → (u + 0xFFFFFFFF) % 0x100000000 ≡ below u
unfolding below
less zero h = omega arith
less (suc u) h = omega arith

low-unit : (u : ℕ) → below u < 0xD7FF → (0 < u) × (u < 0xD800)
unfolding below
low-unit zero h = absurd (omega arith)
low-unit (suc u) h = (omega arith, omega arith)

module _ (f o : ℕ) (s : List ℕ) where
  text-low : (left at k left' at' k' : ℕ) → left ≡ suc left' → at' ≡ at + 2 → k' ≡ k + 1 → below (le 2 s at) < 0xD7FF
      → run (text f o left at k false) s ≡ run (text f o left' at' k' false) s
  text-low left at k left' at' k' e a g h =
      let u = low-unit _ h in
      rw a (text-below f o s left at k left' k' e g u.0 u.1)

  pub text-four : (left at k left' at' k' : ℕ) → left ≡ left' + 4 → at' ≡ at + 8 → k' ≡ k + 4 → lows s at < 0xD7FF
      → run (text f o left at k false) s ≡ run (text f o left' at' k' false) s
  text-four left at k left' at' k' e a g h =
      text-low left at k (left' + 3) (at + 2) (k + 1) (omega arith) refl refl (omega arith)
      ∙ text-low (left' + 3) (at + 2) (k + 1) (left' + 2) (at + 4) (k + 2) (omega arith) (omega arith) (omega arith) (omega arith)
      ∙ text-low (left' + 2) (at + 4) (k + 2) (left' + 1) (at + 6) (k + 3) (omega arith) (omega arith) (omega arith) (omega arith)
      ∙ text-low (left' + 1) (at + 6) (k + 3) left' at' k' (omega arith) (omega arith) (omega arith) (omega arith)
