-- Laws of a run, each stated once: of a sequence, of a number, of a loop that checks and of one that fills.
use Prim.Native.Nat.{ℕ, zero, suc, ◌+◌, ◌-◌, ◌*◌, ◌≤◌, ◌<◌}
use Rattle.std.specs.Prelude.{◌≡◌, List, [], ◌∷◌, ◌++◌, Bool, true, false, ◌&&◌, get_or, leb, Result, Ok, Err, IsOk, IsErrAnd}
use Rattle.std.proofs.Math.Path.{refl, ap, sym}
use Rattle.std.proofs.Common.{rules, ◌∙◌, mul-zero, mul-suc, length-append, le-leb, leb-true}
use native.Mathlib.Omega.{arith}
use Rattle.std.proofs.Math.ListN.{length}
use Rattle.std.proofs.lemmas.Bool.{lt-leb}
use Rattle.std.proofs.lemmas.Result.{err_from_is_err_and}
use Rattle.blob.specs.Le.{le}
use Rattle.blob.specs.Laid.{laid, laid_more, flat}
use Rattle.blob.specs.declared.Refusal.{Refusal}
use Rattle.blob.specs.Reading.{Fault, Reading, got, stop, room, byte, Outcome, done, refused, choose, demand, run, ◌>>=◌, number, many, each, then, answer, as_result, verdict, values}

-- a refusal is never a value, and two values are equal where their outcomes are
pub never : {A : Type 0} (r : Refusal) (a : A) → ◌≡◌ {A = Outcome A} (refused r) (done a) → ⊥
never r a h = let z : ◌≡◌ {A = ℕ} 0 1 = cc in omega arith

pub same : {A : Type 0} (a b : A) → ◌≡◌ {A = Outcome A} (done a) (done b) → a ≡ b
same a b h = cc

-- an answer for a value, and for a refusal
module _ {A R : Type 0} (f : A → R) (g : Refusal → R) (o : Outcome A) where
  pub answer-found : (a b : A) → a ≡ b → o ≡ done b → f a ≡ answer f g o
  answer-found a b e h = ap f e ∙ ap (answer f g) (sym h)

  pub answer-refused : (q r : Refusal) → q ≡ r → o ≡ refused r → g q ≡ answer f g o
  answer-refused q r e h = ap g e ∙ ap (answer f g) (sym h)

-- an error is no value, and a list that is fine is its values
pub not_fine : {A : Type 0} {a : A} (r : Refusal) → ◌≡◌ {A = Result A Refusal} (Err r) (Ok a) → ⊥
not_fine r h = let z : ◌≡◌ {A = ℕ} 0 1 = cc in omega arith

-- a `?` hands on the refusal that was answered
pub handed : {T : Type 0} {q : Refusal} (r : Result T Refusal) → IsErrAnd r (λ e. e ≡ q) → r ≡ Err q
handed r h = let p = err_from_is_err_and r h in p.1 ∙ ap Err p.2

pub handed_on : {T : Type 0} {r x : Result T Refusal} {q : Refusal} → IsErrAnd r (λ e. e ≡ q) → Err q ≡ x → r ≡ x
handed_on h e = handed _ h ∙ e

pub fine-done : {A : Type 0} (o : Outcome (List A)) → verdict o ≡ Ok tt → o ≡ done (values o)
fine-done (done vs) v = refl
fine-done (refused r) v = absurd (not_fine r v)

pub fine-value : {A : Type 0} (o : Outcome A) → verdict o ≡ Ok tt → (a : A) × (o ≡ done a)
fine-value (done a) v = (a, refl)
fine-value (refused r) v = absurd (not_fine r v)

-- an outcome that is no refusal is answered by no error
pub not_refused : {A R : Type 0} (f : A → R) (o : Outcome A) → ((r : Refusal) → o ≡ refused r → ⊥) → IsOk (as_result f o)
not_refused f (done a) n = search rules
not_refused f (refused r) n = absurd (n r refl)

-- what an answer tells of the outcome that it is for
pub result_found : {A R : Type 0} (f : A → R) (o : Outcome A) (x : R) → Ok x ≡ as_result f o → (a : A) × (o ≡ done a) × (x ≡ f a)
result_found f (done a) x h = (a, refl, cc)
result_found f (refused r) x h = absurd (not_fine r (sym h))

pub result_refused : {A R : Type 0} (f : A → R) (o : Outcome A) (r : Refusal) → Err r ≡ as_result f o → o ≡ refused r
result_refused f (done a) r h = absurd (not_fine r h)
result_refused f (refused q) r h = cc

pub refused-value : {A : Type 0} (o : Outcome A) (r : Refusal) → Err r ≡ verdict o → o ≡ refused r
refused-value o r h = result_refused (λ a. tt) o r h

-- what an accepted outcome was made of
pub then-done : {A B : Type 0} (o : Outcome A) (f : A → Outcome B) (b : B) → then o f ≡ done b → (a : A) × (o ≡ done a) × (f a ≡ done b)
unfolding then
then-done (done a) f b e = (a, refl, e)
then-done (refused r) f b e = absurd (never _ _ e)

-- what two tests together tell
pub both : (a b : Bool) → (a && b) ≡ true → (a ≡ true) × (b ≡ true)
both true b e = (refl, e)
both false b e = absurd (let z : ◌≡◌ {A = ℕ} 0 1 = cc in omega arith)

-- a test that each number below n passes, as one that computes
abbrev pub all_below : ℕ → (ℕ → Bool) → Bool
all_below zero p = true
all_below (suc n) p = p 0 && all_below n (λ i. p (suc i))

pub passes : (n : ℕ) (p : ℕ → Bool) → all_below n p ≡ true → (i : ℕ) → i < n → p i ≡ true
passes zero p e i h = absurd (omega arith)
passes (suc n) p e zero h = (both (p 0) _ e).0
passes (suc n) p e (suc i) h = passes n (λ i. p (suc i)) (both (p 0) _ e).1 i (omega arith)

pub choose-done : {A : Type 0} (t : Bool) (o : Outcome A) (r : Refusal) (a : A) → choose t o (refused r) ≡ done a → (t ≡ true) × (o ≡ done a)
choose-done true o r a e = (refl, e)
choose-done false o r a e = absurd (never _ _ e)

pub run_bind : {A B : Type 0} (p : Reading A) (f : A → Reading B) (s : List ℕ) → run (p >>= f) s ≡ then (run p s) (λ a. run (f a) s)
unfolding run then ◌>>=◌
run_bind (got a) f s = refl
run_bind (stop r) f s = refl
run_bind (room e r k) f s = go (leb e (length s)) (run_bind k f s)
  where
    go : (b : Bool) → run (k >>= f) s ≡ then (run k s) (λ a. run (f a) s)
        → choose b (run (k >>= f) s) (refused (r.told (length s))) ≡ then (choose b (run k s) (refused (r.told (length s)))) (λ a. run (f a) s)
    go true ih = ih
    go false ih = refl
run_bind (byte p k) f s = run_bind (k (get_or s p 0)) f s

-- two readings that find the same, and behind them readings that find the same
pub bind_same : {A B : Type 0} (p q : Reading A) (f g : A → Reading B) (s : List ℕ) → run p s ≡ run q s → ((a : A) → run (f a) s ≡ run (g a) s)
    → run (p >>= f) s ≡ run (q >>= g) s
unfolding then
bind_same {A} p q f g s e h = run_bind p f s ∙ ap (λ o. then o (λ a. run (f a) s)) e ∙ go (run q s) ∙ sym (run_bind q g s)
  where
    go : (o : Outcome A) → then o (λ a. run (f a) s) ≡ then o (λ a. run (g a) s)
    go (done a) = h a
    go (refused r) = refl

-- one law for every width
pub finds-number : (w p : ℕ) (s : List ℕ) → run (number w p) s ≡ done (le w s p)
unfolding run number le then ◌>>=◌
finds-number zero p s = refl
finds-number (suc w) p s = simp (run_bind, finds-number w (p + 1) s)

-- a reading that is known to find a value, or a refusal, and another behind it
pub run-after : {A B : Type 0} (p : Reading A) (f : A → Reading B) (s : List ℕ) (a : A) → run p s ≡ done a → run (p >>= f) s ≡ run (f a) s
unfolding then
run-after p f s a e = run_bind p f s ∙ ap (λ o. then o (λ n. run (f n) s)) e

pub run-stopped : {A B : Type 0} (p : Reading A) (f : A → Reading B) (s : List ℕ) (r : Refusal) → run p s ≡ refused r → run (p >>= f) s ≡ refused r
unfolding then
run-stopped p f s r e = run_bind p f s ∙ ap (λ o. then o (λ n. run (f n) s)) e

-- where all of a sequence is fine, its first is, and what goes by it
pub bind_fine : {A B : Type 0} (p : Reading A) (f : A → Reading B) (s : List ℕ) → verdict (run (p >>= f) s) ≡ Ok tt
    → (a : A) × (run p s ≡ done a) × (verdict (run (f a) s) ≡ Ok tt)
bind_fine p f s v =
    let b = fine-value (run (p >>= f) s) v in
    let t = then-done (run p s) (λ a. run (f a) s) b.0 (sym (run_bind p f s) ∙ b.1) in
    (t.0, t.1, ap verdict t.2)

pub run-number : {B : Type 0} (w p : ℕ) (f : ℕ → Reading B) (s : List ℕ) → run (number w p >>= f) s ≡ run (f (le w s p)) s
run-number w p f s = run-after (number w p) f s _ (finds-number w p s)

pub run-got : {A : Type 0} (a : A) (s : List ℕ) → run (got a) s ≡ done a
unfolding run
run-got a s = refl

pub run-demand : {A : Type 0} (t : Bool) (r : Fault) (k : Reading A) (s : List ℕ)
    → run (demand t r k) s ≡ choose t (run k s) (refused (r.told (length s)))
unfolding run demand
run-demand true r k s = refl
run-demand false r k s = refl

-- where there is room, and where not; where a test holds, and where not
module _ {A : Type 0} (r : Fault) (k : Reading A) (s : List ℕ) where
  pub run_room : (e : ℕ) → e ≤ length s → run (room e r k) s ≡ run k s
  unfolding run
  run_room e h = rw (le-leb _ _ h)

  pub run_past : (e : ℕ) → length s < e → run (room e r k) s ≡ refused (r.told (length s))
  unfolding run
  run_past e h = rw (lt-leb _ _ h)

  pub run_holds : (t : Bool) → t ≡ true → run (demand t r k) s ≡ run k s
  unfolding demand
  run_holds t h = rw h

  pub run-fails : (t : Bool) → t ≡ false → run (demand t r k) s ≡ refused (r.told (length s))
  unfolding run demand
  run-fails t h = rw h

-- what is found behind a test of room goes by what is found where there is room
pub same_room : {A : Type 0} (e : ℕ) (r : Fault) (k l : Reading A) (s : List ℕ) → (e ≤ length s → run k s ≡ run l s) → run (room e r k) s ≡ run (room e r l) s
unfolding run
same_room e r k l s h = go (leb e (length s)) refl
  where
    go : (t : Bool) → leb e (length s) ≡ t → choose t (run k s) (refused (r.told (length s))) ≡ choose t (run l s) (refused (r.told (length s)))
    go true g = h (leb-true e (length s) g)
    go false g = refl

-- A loop over `many` keeps the number that is left and the place of the next one. Its invariant says that
-- what is left decides: the verdict of the rest is that of the whole, and the rest laid from here is the whole.
module _ {S A : Type 0} (p : S → Reading A) (next : A → S → S) where
  -- how many are left, as a successor
  more : {left : ℕ} → 0 < left → left ≡ suc (left - 1)
  more h = omega arith

  many-suc : (n : ℕ) (at : S) (s : List ℕ) (a : A) → run (p at) s ≡ done a
      → run (many p next (suc n) at) s ≡ then (run (many p next n (next a at)) s) (λ vs. done (a ∷ vs))
  unfolding many then run
  many-suc n at s a e = simp (run_bind, e)

  -- What the rest tells, with a running state or without: T before a value is T' behind it.
  told-next : {B : Type 0} (T T' : Outcome (List A) → B) (a : A) → ((vs : List A) → T (done (a ∷ vs)) ≡ T' (done vs)) → ((r : Refusal) → T (refused r) ≡ T' (refused r))
      → (o : Outcome (List A)) → T (then o (λ vs. done (a ∷ vs))) ≡ T' o
  unfolding then
  told-next T T' a f g (done vs) = f vs
  told-next T T' a f g (refused r) = g r

  pub told_more : {B : Type 0} (T T' : Outcome (List A) → B) (left : ℕ) (at : S) (s : List ℕ) (a : A)
      → ((vs : List A) → T (done (a ∷ vs)) ≡ T' (done vs)) → ((r : Refusal) → T (refused r) ≡ T' (refused r)) → 0 < left → run (p at) s ≡ done a
      → T (run (many p next left at) s) ≡ T' (run (many p next (left - 1) (next a at)) s)
  told_more T T' left at s a f g h e =
      ap (λ n. T (run (many p next n at) s)) (more h) ∙ ap T (many-suc (left - 1) at s a e) ∙ told-next T T' a f g _

  pub many-refused : (left : ℕ) (at : S) (s : List ℕ) (r : Refusal) → 0 < left → run (p at) s ≡ refused r → run (many p next left at) s ≡ refused r
  unfolding many then
  many-refused left at s r h e = rw (more h) (simp (run_bind, e))

  pub many-empty : (left : ℕ) (at : S) (s : List ℕ) → left ≤ 0 → run (many p next left at) s ≡ done []
  unfolding many run
  many-empty left at s h = let c : left ≡ 0 = omega arith in rw c

  -- the value before the rest changes no verdict
  same_verdict : (a : A) (o : Outcome (List A)) → verdict (then o (λ vs. done (a ∷ vs))) ≡ verdict o
  same_verdict a = told-next verdict verdict a (λ vs. refl) (λ r. refl)

  pub many_more : (left : ℕ) (at : S) (s : List ℕ) (a : A) → 0 < left → run (p at) s ≡ done a
      → verdict (run (many p next left at) s) ≡ verdict (run (many p next (left - 1) (next a at)) s)
  many_more left at s a = told_more verdict verdict left at s a (λ vs. refl) (λ r. refl)

  -- the same of the i-th of n, which is read at its own place
  pub many_next : (n i : ℕ) (at at' : S) (s : List ℕ) (a : A) → i < n → run (p at) s ≡ done a → next a at ≡ at'
      → verdict (run (many p next (n - i) at) s) ≡ verdict (run (many p next (n - (i + 1)) at') s)
  many_next n i at at' s a h e g = let left : n - i - 1 ≡ n - (i + 1) = omega arith in many_more (n - i) at s a (omega arith) e ∙ rw (left, g)

  pub many-stop : (left : ℕ) (at : S) (s : List ℕ) (r : Refusal) → 0 < left → run (p at) s ≡ refused r
      → verdict (run (many p next left at) s) ≡ Err r
  many-stop left at s r h e = ap verdict (many-refused left at s r h e)

  -- where all that are left are fine, the next one is
  pub many-first : (left : ℕ) (at : S) (s : List ℕ) → 0 < left → verdict (run (many p next left at) s) ≡ Ok tt → verdict (run (p at) s) ≡ Ok tt
  many-first left at s h v = go (run (p at) s) refl
    where
      go : (o : Outcome A) → run (p at) s ≡ o → verdict o ≡ Ok tt
      go (done a) e = refl
      go (refused r) e = absurd (not_fine r (sym (many-stop left at s r h e) ∙ v))

  pub many-none : (left : ℕ) (at : S) (s : List ℕ) → left ≤ 0 → verdict (run (many p next left at) s) ≡ Ok tt
  many-none left at s h = ap verdict (many-empty left at s h)

  -- the values of the whole are the one that was read and those of the rest
  pub values-more : (left : ℕ) (at : S) (s : List ℕ) (a : A) → 0 < left → run (p at) s ≡ done a → verdict (run (many p next left at) s) ≡ Ok tt
      → values (run (many p next left at) s) ≡ a ∷ values (run (many p next (left - 1) (next a at)) s)
  unfolding then
  values-more left at s a h e v =
      ap (λ n. values (run (many p next n at) s)) (more h) ∙ ap values (many-suc (left - 1) at s a e)
      ∙ go (run (many p next (left - 1) (next a at)) s) (sym (many_more left at s a h e) ∙ v)
    where
      go : (o : Outcome (List A)) → verdict o ≡ Ok tt → values (then o (λ vs. done (a ∷ vs))) ≡ a ∷ values o
      go (done vs) w = refl
      go (refused r) w = absurd (not_fine r w)

  pub values-none : (left : ℕ) (at : S) (s : List ℕ) → left ≤ 0 → values (run (many p next left at) s) ≡ []
  values-none left at s h = ap values (many-empty left at s h)

  -- A filler whose words go by a running state: W gives the words of the values from a state on, W' from the next state on.
  pub fill_more : (W W' : List A → List ℕ) (ws s area area' : List ℕ) (left : ℕ) (at : S) (to : ℕ) (a : A) → ((vs : List A) → W (a ∷ vs) ≡ ws ++ W' vs)
      → area' ≡ laid area to ws → 0 < left → run (p at) s ≡ done a → verdict (run (many p next left at) s) ≡ Ok tt
      → laid area to (W (values (run (many p next left at) s))) ≡ laid area' (to + length ws) (W' (values (run (many p next (left - 1) (next a at)) s)))
  fill_more W W' ws s area area' left at to a f ea h e v =
      ap (λ vs. laid area to (W vs)) (values-more left at s a h e v)
      ∙ ap (laid area to) (f _)
      ∙ laid_more area to ws _
      ∙ ap (λ l. laid l (to + length ws) (W' (values (run (many p next (left - 1) (next a at)) s)))) (sym ea)

  -- where no single one is ever refused, all of them are fine
  pub many-fine : (s : List ℕ) → ((at : S) → (a : A) × (run (p at) s ≡ done a)) → (n : ℕ) (at : S) → verdict (run (many p next n at) s) ≡ Ok tt
  unfolding many run
  many-fine s h zero at = refl
  many-fine s h (suc n) at = ap verdict (many-suc n at s (h at).0 (h at).1) ∙ same_verdict (h at).0 _ ∙ many-fine s h n (next (h at).0 at)

  pub fill_none : (W : List A → List ℕ) (s area : List ℕ) (left : ℕ) (at : S) (to : ℕ) → W [] ≡ [] → left ≤ 0 → laid area to (W (values (run (many p next left at) s))) ≡ area
  unfolding laid
  fill_none W s area left at to n h = ap (λ vs. laid area to (W vs)) (values-none left at s h) ∙ ap (laid area to) n

  module _ (words : A → List ℕ) where
    -- the area once the rest is laid from here
    abbrev pub rest : List ℕ → List ℕ → ℕ → S → ℕ → List ℕ
    rest s area left at to = laid area to (flat words (values (run (many p next left at) s)))

    pub rest_more : (s area area' : List ℕ) (left : ℕ) (at : S) (to : ℕ) (a : A) → area' ≡ laid area to (words a) → 0 < left → run (p at) s ≡ done a
        → verdict (run (many p next left at) s) ≡ Ok tt
        → rest s area left at to ≡ rest s area' (left - 1) (next a at) (to + length (words a))
    unfolding flat
    rest_more s area area' left at to a = fill_more (flat words) (flat words) (words a) s area area' left at to a (λ vs. refl)

    pub rest-none : (s area : List ℕ) (left : ℕ) (at : S) (to : ℕ) → left ≤ 0 → rest s area left at to ≡ area
    unfolding flat
    rest-none s area left at to = fill_none (flat words) s area left at to refl

    -- the same of the i-th of n, which is read at its own place, and whose words are laid at theirs
    pub rest-next : (s area area' : List ℕ) (n i : ℕ) (at at' : S) (to to' : ℕ) (a : A) → area' ≡ laid area to (words a) → i < n → run (p at) s ≡ done a
        → verdict (run (many p next (n - i) at) s) ≡ Ok tt → next a at ≡ at' → to + length (words a) ≡ to'
        → rest s area (n - i) at to ≡ rest s area' (n - (i + 1)) at' to'
    rest-next s area area' n i at at' to to' a ea h e v ha ht =
        let left : n - i - 1 ≡ n - (i + 1) = omega arith in
        rest_more s area area' (n - i) at to a ea (omega arith) e v ∙ rw (left, ha, ht)

  -- one value more than the rest has
  one_more : (a : A) (o : Outcome (List A)) (n : ℕ) → verdict o ≡ Ok tt → length (values o) ≡ n → length (values (then o (λ vs. done (a ∷ vs)))) ≡ suc n
  unfolding then
  one_more a (done vs) n v h = ap suc h
  one_more a (refused r) n v h = absurd (not_fine r v)

  -- as many values as were asked for
  pub many-length : (n : ℕ) (at : S) (s : List ℕ) → verdict (run (many p next n at) s) ≡ Ok tt → length (values (run (many p next n at) s)) ≡ n
  unfolding many run
  many-length zero at s v = refl
  many-length (suc n) at s v = go (λ at'. many-length n at' s) (run (p at) s) refl
    where
      go : ((at' : S) → verdict (run (many p next n at') s) ≡ Ok tt → length (values (run (many p next n at') s)) ≡ n)
          → (o : Outcome A) → run (p at) s ≡ o → length (values (run (many p next (suc n) at) s)) ≡ suc n
      go ih (refused r) e = absurd (not_fine r (sym (many-stop (suc n) at s r (omega arith) e) ∙ v))
      go ih (done a) e =
          let w : verdict (run (many p next n (next a at)) s) ≡ Ok tt = sym (ap verdict (many-suc n at s a e) ∙ same_verdict a _) ∙ v in
          ap (λ o. length (values o)) (many-suc n at s a e) ∙ one_more a _ n w (ih (next a at) w)

  pub many-count : (n : ℕ) (at : S) (s : List ℕ) (vs : List A) → run (many p next n at) s ≡ done vs → length vs ≡ n
  many-count n at s vs e = sym (ap (λ o. length (values o)) e) ∙ many-length n at s (ap verdict e)

-- One value for each of some others: the first one, and the rest.
module _ {A B : Type 0} (f : A → Reading B) (s : List ℕ) where
  pub each_more : (a : A) (vs : List A) (b : B) → run (f a) s ≡ done b → run (each f (a ∷ vs)) s ≡ then (run (each f vs) s) (λ bs. done (b ∷ bs))
  unfolding each then run
  each_more a vs b e = simp (run_bind, e)

  pub each-stop : (a : A) (vs : List A) (r : Refusal) → run (f a) s ≡ refused r → run (each f (a ∷ vs)) s ≡ refused r
  unfolding each
  each-stop a vs r e = run-stopped (f a) _ s r e

  -- what they tell, with a running state or without: T before a value is T' behind it
  pub each-told : {R : Type 0} (T T' : Outcome (List B) → R) (a : A) (vs : List A) (b : B)
      → ((bs : List B) → T (done (b ∷ bs)) ≡ T' (done bs)) → ((r : Refusal) → T (refused r) ≡ T' (refused r)) → run (f a) s ≡ done b
      → T (run (each f (a ∷ vs)) s) ≡ T' (run (each f vs) s)
  unfolding then
  each-told T T' a vs b g h e = ap T (each_more a vs b e) ∙ go (run (each f vs) s)
    where
      go : (o : Outcome (List B)) → T (then o (λ bs. done (b ∷ bs))) ≡ T' o
      go (done bs) = g bs
      go (refused r) = h r

  -- what an accepted row of them was made of
  pub each-done : (a : A) (vs : List A) (all : List B) → run (each f (a ∷ vs)) s ≡ done all
      → (b : B) × (bs : List B) × (run (f a) s ≡ done b) × (run (each f vs) s ≡ done bs) × (all ≡ b ∷ bs)
  unfolding each run
  each-done a vs all e =
      let first = then-done (run (f a) s) _ all (sym (run_bind (f a) _ s) ∙ e) in
      let rest = then-done (run (each f vs) s) _ all (sym (run_bind (each f vs) _ s) ∙ first.2) in
      (first.0, rest.0, first.1, rest.1, sym (same _ _ rest.2))

-- readings that find the same at each state that P holds of, repeated
pub many-same : {S A : Type 0} (p q : S → Reading A) (next : A → S → S) (P : S → Type 0) (s : List ℕ) → ((at : S) → P at → run (p at) s ≡ run (q at) s)
    → ((a : A) (at : S) → P at → P (next a at)) → (n : ℕ) (at : S) → P at → run (many p next n at) s ≡ run (many q next n at) s
unfolding many
many-same p q next P s h g zero at i = refl
many-same p q next P s h g (suc n) at i =
    bind_same _ _ _ _ s (h at i) (λ a. bind_same _ _ _ _ s (many-same p q next P s h g n (next a at) (g a at i)) (λ vs. refl))

pub length-flat : {A B : Type 0} (words : A → List B) (w : ℕ) → ((a : A) → length (words a) ≡ w) → (vs : List A) → length (flat words vs) ≡ w * length vs
unfolding flat
length-flat words w h [] = simp mul-zero
length-flat words w h (a ∷ vs) = simp (length-append, h a, length-flat words w h vs, mul-suc) (omega arith)

-- what is left behind the i-th of n, and where the next one of so many bytes stands
pub one_on : (n i at w : ℕ) → (n - i - 1 ≡ n - (i + 1)) × (at + w * i + w ≡ at + w * (i + 1))
one_on n i at w = (omega arith, omega arith)
