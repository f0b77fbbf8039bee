-- Which bytes a reading asks for, and what it finds where it is accepted, worked out by one rule for each form of a reading.
use Prim.{tt}
use Rattle.std.specs.Prelude.{ℕ, zero, suc, ◌+◌, ◌≤◌, ◌<◌, ◌≡◌, List, [], ◌∷◌, ◌++◌, Bool, length, get_or}
use Rattle.std.proofs.Math.Path.{refl, subst}
use Rattle.std.proofs.Common.{ap, ap₂, sym, ◌∙◌, append_assoc, append-nil, add-zero, zero-add, suc-add, arith, leb-true}
use Rattle.std.proofs.Math.Bool.{true, false}
use Rattle.std.proofs.Math.Dec.{leb}
use Rattle.blob.specs.Le.{le}
use Rattle.blob.specs.Laid.{flat}
use Rattle.blob.specs.Places.{Each, span, rows}
use Rattle.blob.specs.Reading.{Fault, Reading, got, stop, room, byte, Outcome, done, refused, choose, demand, run, places, ◌>>=◌, number, many, each, then}
use Rattle.blob.proofs.Laws.{never, same, run_bind, finds-number}

-- where the reading is accepted, its value and the places that it asks for are as P says; accepted or refused, each of these places
-- lies in the blob
pub record Asks {A : Type 0} (r : Reading A) (s : List ℕ) (P : A → List ℕ → Type 0) : Type 0 where
  pub found : (a : A) → run r s ≡ done a → P a (places r s)
  pub inside : Each (λ p. p < length s) (places r s)

pub inside_append : (n : ℕ) (ps qs : List ℕ) → Each (λ p. p < n) ps → Each (λ p. p < n) qs → Each (λ p. p < n) (ps ++ qs)
inside_append n [] qs h g = g
inside_append n (p ∷ ps) qs h g = (h.0, inside_append n ps qs h.1 g)

pub inside_span : (n at w : ℕ) → at + w ≤ n → Each (λ p. p < n) (span at w)
unfolding span
inside_span n at zero h = tt
inside_span n at (suc w) h = (omega arith, inside_span n (at + 1) w (omega arith))

module _ {A : Type 0} {s : List ℕ} {P : A → List ℕ → Type 0} where
  pub asks_got : {a : A} → P a [] → Asks (got a) s P
  unfolding run places
  asks_got {a} h = record { found = λ b e. subst (λ x. P x []) (same a b e) h; inside = tt }

  pub asks_stop : {r : Fault} → Asks (stop r) s P
  unfolding run places
  asks_stop = record { found = λ b e. absurd (never _ _ e); inside = tt }

  pub asks_room : {e : ℕ} {r : Fault} {k : Reading A} → (e ≤ length s → Asks k s P) → Asks (room e r k) s P
  unfolding run places
  asks_room {e} {r} {k} h = record { found = λ b. go b (leb e (length s)) refl; inside = within (leb e (length s)) refl }
    where
      go : (b : A) (t : Bool) → leb e (length s) ≡ t → choose t (run k s) (refused (r.told (length s))) ≡ done b → P b (choose t (places k s) [])
      go b true eq d = (h (leb-true e (length s) eq)).found b d
      go b false eq d = absurd (never _ _ d)

      within : (t : Bool) → leb e (length s) ≡ t → Each (λ p. p < length s) (choose t (places k s) [])
      within true eq = (h (leb-true e (length s) eq)).inside
      within false eq = tt

  pub asks_choose : (t : Bool) {k l : Reading A} → (t ≡ true → Asks k s P) → (t ≡ false → Asks l s P) → Asks (choose t k l) s P
  asks_choose true h g = h refl
  asks_choose false h g = g refl

  pub asks_demand : (t : Bool) (r : Fault) {k : Reading A} → (t ≡ true → Asks k s P) → Asks (demand t r k) s P
  unfolding demand
  asks_demand t r h = asks_choose t h (λ e. asks_stop)

  pub asks_so : {Q : A → List ℕ → Type 0} {r : Reading A} → Asks r s Q → ((a : A) (ps : List ℕ) → Q a ps → P a ps) → Asks r s P
  asks_so h g = record { found = λ a e. g a _ (h.found a e); inside = h.inside }

-- what follows an accepted outcome
after : {A : Type 0} → Outcome A → (A → List ℕ) → List ℕ
after (done a) f = f a
after (refused r) f = []

places-bind : {A B : Type 0} (p : Reading A) (f : A → Reading B) (s : List ℕ) → places (p >>= f) s ≡ places p s ++ after (run p s) (λ a. places (f a) s)
unfolding run places ◌>>=◌ after
places-bind (got a) f s = refl
places-bind (stop r) f s = refl
places-bind (room e r k) f s = go (leb e (length s)) (places-bind k f s)
  where
    go : (t : Bool) → places (k >>= f) s ≡ places k s ++ after (run k s) (λ a. places (f a) s)
        → choose t (places (k >>= f) s) [] ≡ choose t (places k s) [] ++ after (choose t (run k s) (refused (r.told (length s)))) (λ a. places (f a) s)
    go true ih = ih
    go false ih = refl
places-bind (byte p k) f s = ap (λ (l : List ℕ). p ∷ l) (places-bind (k (get_or s p 0)) f s)

pub asks_bind : {A B : Type 0} {s : List ℕ} (Q : A → List ℕ → Type 0) {P : B → List ℕ → Type 0} {p : Reading A} {f : A → Reading B}
    → Asks p s Q → ((a : A) (ps : List ℕ) → Q a ps → Asks (f a) s (λ b qs. P b (ps ++ qs))) → Asks (p >>= f) s P
unfolding after then
asks_bind {A} {B} {s} Q {P} {p} {f} h g =
    record { found = λ b e. go b (run p s) refl (sym (run_bind p f s) ∙ e) (places-bind p f s); inside = rw (places-bind p f s) (inside_append (length s) (places p s) _ h.inside (within (run p s) refl)) }
  where
    go : (b : B) (o : Outcome A) → run p s ≡ o → then o (λ a. run (f a) s) ≡ done b
        → places (p >>= f) s ≡ places p s ++ after o (λ a. places (f a) s) → P b (places (p >>= f) s)
    go b (done a) o d l = subst (λ ps. P b ps) (sym l) ((g a (places p s) (h.found a o)).found b d)
    go b (refused r) o d l = absurd (never _ _ d)

    within : (o : Outcome A) → run p s ≡ o → Each (λ p. p < length s) (after o (λ a. places (f a) s))
    within (done a) e = (g a (places p s) (h.found a e)).inside
    within (refused r) e = tt

places-number : (w p : ℕ) (s : List ℕ) → places (number w p) s ≡ span p w
unfolding places number span after run ◌>>=◌
places-number zero p s = refl
places-number (suc w) p s = ap (λ (l : List ℕ). p ∷ l) (places-bind (number w (p + 1)) _ s ∙ simp (finds-number, places-number w (p + 1) s, append-nil))

-- a reading that asks for the same places whatever it finds
pub asks_fixed : {A B : Type 0} {s : List ℕ} (qs : List ℕ) (R : A → Type 0) {P : B → List ℕ → Type 0} {p : Reading A} {f : A → Reading B}
    → Asks p s (λ a ps. (qs ≡ ps) × R a) → ((a : A) → R a → Asks (f a) s (λ b rs. P b (qs ++ rs))) → Asks (p >>= f) s P
asks_fixed {A} {B} {s} qs R {P} {p} {f} h g =
    asks_bind _ h (λ a ps q. subst (λ l. Asks (f a) s (λ b rs. P b (l ++ rs))) q.0 (g a q.1))

-- one rule for every width; the bytes are there
pub asks_number : {s : List ℕ} (w p : ℕ) → p + w ≤ length s → Asks (number w p) s (λ a ps. (span p w ≡ ps) × (a ≡ le w s p))
asks_number {s} w p h =
    record {
      found = λ a e. (sym (places-number w p s), same _ _ (sym e ∙ finds-number w p s));
      inside = rw (places-number w p s) (inside_span (length s) p w h);
    }

pub asks_next : {B : Type 0} {s : List ℕ} {P : B → List ℕ → Type 0} (w p : ℕ) {f : ℕ → Reading B} → p + w ≤ length s
    → ((a : ℕ) → a ≡ le w s p → Asks (f a) s (λ b qs. P b (span p w ++ qs))) → Asks (number w p >>= f) s P
asks_next {B} {s} w p h g = asks_fixed (span p w) (λ a. a ≡ le w s p) (asks_number w p h) g

-- two rows of places, those behind others, and the last of a row, which ends in nothing
pub asked-append : {ps qs ps' qs' : List ℕ} → ps ≡ qs → ps' ≡ qs' → ps ++ ps' ≡ qs ++ qs'
asked-append h g = ap₂ (λ (a b : List ℕ). a ++ b) h g

pub asked-behind : (ps : List ℕ) {qs qs' : List ℕ} → qs ≡ qs' → ps ++ qs ≡ ps ++ qs'
asked-behind ps h = ap (λ (l : List ℕ). ps ++ l) h

pub asked-last : {ps qs : List ℕ} → ps ≡ qs → ps ++ [] ≡ qs
asked-last h = rw append-nil h

-- two spans in a row are one
pub span-append : (at n m : ℕ) → span at n ++ span (at + n) m ≡ span at (n + m)
unfolding span
span-append at zero m = simp (add-zero, zero-add)
span-append at (suc n) m = let e : (at + suc n) ≡ (at + 1) + n = omega arith in rw (suc-add, e) (ap (λ (l : List ℕ). at ∷ l) (span-append (at + 1) n m))

pub span-join : (at n m : ℕ) (xs : List ℕ) → span at n ++ (span (at + n) m ++ xs) ≡ span at (n + m) ++ xs
span-join at n m xs = sym (append_assoc (span at n) (span (at + n) m) xs) ∙ ap (λ (l : List ℕ). l ++ xs) (span-append at n m)

-- values one after another, by one rule for every record and every state; I is what the next one may rely on
pub asks_many : {S A : Type 0} {s : List ℕ} {p : S → Reading A} {next : A → S → S} (I : ℕ → S → Type 0) (q : S → A → List ℕ)
    → ((n : ℕ) (at : S) → I (suc n) at → Asks (p at) s (λ a ps. (ps ≡ q at a) × I n (next a at)))
    → (n : ℕ) (at : S) → I n at → Asks (many p next n at) s (λ vs ps. (ps ≡ rows q next at vs) × (length vs ≡ n))
unfolding many rows
asks_many I q one zero at i = asks_got (refl, refl)
asks_many {S} {A} {s} {p} {next} I q one (suc n) at i =
    asks_bind _ (one n at i) (λ a ps h. asks_bind _ (asks_many I q one n (next a at) h.1) (λ vs qs g. asks_got (asked-append h.0 (asked-last g.0), ap suc g.1)))

pub asks_each : {A B : Type 0} {s : List ℕ} {f : A → Reading B} (q : B → List ℕ)
    → ((a : A) → Asks (f a) s (λ b ps. ps ≡ q b)) → (vs : List A) → Asks (each f vs) s (λ bs ps. ps ≡ flat q bs)
unfolding each flat
asks_each q one [] = asks_got refl
asks_each q one (a ∷ vs) = asks_bind _ (one a) (λ b ps h. asks_bind _ (asks_each q one vs) (λ bs qs g. asks_got (asked-append h (asked-last g))))
