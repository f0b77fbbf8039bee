-- The language in which the format is defined. A reading asks for room in a blob and for single bytes of it,
-- and ends with a value or a refusal. It learns the blob's length only by asking for room, and in a refusal:
-- that is why a longer blob is read the same (Longer).
use Rattle.std.specs.Prelude.{ℕ, zero, suc, ◌+◌, ◌*◌, List, [], ◌∷◌, Bool, true, false, length, get_or, leb, Ok, Err, Result}
use Rattle.blob.specs.declared.Refusal.{Refusal}

-- what a refusal tells, which may name the blob's length. That its code is not 0, which is for what is accepted, is proved of each
-- reading of the definition (Coded)
pub record Fault : Type 0 where
  pub told : ℕ → Refusal

pub data Reading (A : Type 0) : Type 0 where
  -- the value
  got : A → Reading A
  -- a refusal
  stop : Fault → Reading A
  -- go on where the blob has room up to a place, refuse where not
  room : ℕ → Fault → Reading A → Reading A
  -- the byte at a place
  byte : ℕ → (ℕ → Reading A) → Reading A

pub data Outcome (A : Type 0) : Type 0 where
  done : A → Outcome A
  refused : Refusal → Outcome A

-- the first of two where a test holds, else the second
abbrev pub choose : {A : Type 0} → Bool → A → A → A
choose true a b = a
choose false a b = b

-- go on where a test holds, refuse where not
unfoldable pub demand : {A : Type 0} → Bool → Fault → Reading A → Reading A
demand b r k = choose b k (stop r)

infixl 20 ◌>>=◌
-- one reading, then another that goes by its value
unfoldable pub ◌>>=◌ : {A B : Type 0} → Reading A → (A → Reading B) → Reading B
got a >>= f = f a
stop r >>= f = stop r
room e r k >>= f = room e r (k >>= f)
byte p k >>= f = byte p (λ x. k x >>= f)

-- the little-endian number of w bytes at a place
unfoldable pub number : ℕ → ℕ → Reading ℕ
number zero p = got 0
number (suc w) p = byte p (λ a. number w (p + 1) >>= λ r. got (a + 256 * r))

-- n values one after another. The state is the place of the next one, or that place with running numbers; `next`
-- gives it from a value and the state before
unfoldable pub many : {S A : Type 0} → (S → Reading A) → (A → S → S) → ℕ → S → Reading (List A)
many p next zero at = got []
many p next (suc n) at = p at >>= λ a. many p next n (next a at) >>= λ vs. got (a ∷ vs)

-- one value for each of some others, in their order
unfoldable pub each : {A B : Type 0} → (A → Reading B) → List A → Reading (List B)
each f [] = got []
each f (a ∷ vs) = f a >>= λ b. each f vs >>= λ bs. got (b ∷ bs)

-- what a reading of the blob s finds
unfoldable pub run : {A : Type 0} → Reading A → List ℕ → Outcome A
run (got a) s = done a
run (stop r) s = refused (r.told (length s))
run (room e r k) s = choose (leb e (length s)) (run k s) (refused (r.told (length s)))
run (byte p k) s = run (k (get_or s p 0)) s

-- the places of the bytes that it asks for on the way: those that it rests on
unfoldable pub places : {A : Type 0} → Reading A → List ℕ → List ℕ
places (got a) s = []
places (stop r) s = []
places (room e r k) s = choose (leb e (length s)) (places k s) []
places (byte p k) s = p ∷ places (k (get_or s p 0)) s

-- a second outcome that goes by the value of an accepted one
unfoldable pub then : {A B : Type 0} → Outcome A → (A → Outcome B) → Outcome B
then (done a) f = f a
then (refused r) f = refused r

-- what a function answers, from what it answers for a value and for a refusal
abbrev pub answer : {A R : Type 0} → (A → R) → (Refusal → R) → Outcome A → R
answer f g (done a) = f a
answer f g (refused r) = g r

-- what a function answers that answers a refusal as an error, from what it answers for a value; and one that only tests
abbrev pub as_result : {A R : Type 0} → (A → R) → Outcome A → Result R Refusal
as_result f o = answer (λ a. Ok (f a)) Err o

abbrev pub verdict : {A : Type 0} → Outcome A → Result (Unit {0}) Refusal
verdict o = as_result (λ a. tt) o

-- the values of an accepted run
abbrev pub values : {A : Type 0} → Outcome (List A) → List A
values (done vs) = vs
values (refused r) = []
