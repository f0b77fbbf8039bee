-- That no refusal has code 0, which is for what is accepted, worked out by one rule for each form of a reading.
use Prim.{Unit, tt}
use Rattle.std.specs.Prelude.{ℕ, zero, suc, ◌+◌, ◌≤◌, ◌≡◌, List, [], ◌∷◌, Bool, true, false, length, get_or, leb}
use Rattle.std.proofs.Common.{sym, arith}
use Rattle.blob.specs.declared.Refusal.{Refusal}
use Rattle.blob.specs.Reading.{Fault, Reading, got, stop, room, byte, refused, choose, demand, run, ◌>>=◌, number, many, each}
use Rattle.blob.proofs.Laws.{never}

-- what a fault tells has a code, whatever the blob's length
pub record HasCode (r : Fault) : Type 0 where
  pub code : (n : ℕ) → 1 ≤ (r.told n).code

-- so has each fault of a reading, whatever the bytes are
unfoldable pub Faults : {A : Type 0} → Reading A → Type 0
Faults (got a) = Unit {0}
Faults (stop r) = HasCode r
Faults (room e r k) = HasCode r × Faults k
Faults (byte p k) = (x : ℕ) → Faults (k x)

pub record Coded {A : Type 0} (r : Reading A) : Type 0 where
  pub faults : Faults r

module _ {A : Type 0} where
  run-faults : (r : Reading A) → Faults r → (s : List ℕ) (q : Refusal) → run r s ≡ refused q → 1 ≤ q.code
  unfolding run Faults
  run-faults (got a) c s q e = absurd (never q a (sym e))
  run-faults (stop r) c s q e = let g : (r.told (length s)).code ≡ q.code = cc in omega (arith, c.code (length s))
  run-faults (room e r k) c s q h = go (leb e (length s)) (run-faults k c.1 s q) h
    where
      go : (b : Bool) → (run k s ≡ refused q → 1 ≤ q.code) → choose b (run k s) (refused (r.told (length s))) ≡ refused q → 1 ≤ q.code
      go true ih h = ih h
      go false ih h = let g : (r.told (length s)).code ≡ q.code = cc in omega (arith, c.0.code (length s))
  run-faults (byte p k) c s q h = run-faults (k (get_or s p 0)) (c (get_or s p 0)) s q h

  -- no refusal of such a reading has code 0
  pub run-coded : (r : Reading A) → Coded r → (s : List ℕ) (q : Refusal) → run r s ≡ refused q → 1 ≤ q.code
  run-coded r c = run-faults r c.faults

  pub coded_got : {a : A} → Coded (got a)
  unfolding Faults
  coded_got = record { faults = tt }

  pub coded_stop : {r : Fault} → HasCode r → Coded {A = A} (stop r)
  unfolding Faults
  coded_stop h = record { faults = h }

  pub coded_room : {e : ℕ} {r : Fault} {k : Reading A} → HasCode r → Coded k → Coded (room e r k)
  unfolding Faults
  coded_room h g = record { faults = (h, g.faults) }

  pub coded_byte : {p : ℕ} {k : ℕ → Reading A} → ((x : ℕ) → Coded (k x)) → Coded (byte p k)
  unfolding Faults
  coded_byte h = record { faults = λ x. (h x).faults }

  pub coded_choose : (t : Bool) {k l : Reading A} → Coded k → Coded l → Coded (choose t k l)
  coded_choose true h g = h
  coded_choose false h g = g

  pub coded_demand : (t : Bool) {r : Fault} {k : Reading A} → HasCode r → Coded k → Coded (demand t r k)
  unfolding demand
  coded_demand t h g = coded_choose t g (coded_stop h)

bind_faults : {A B : Type 0} (p : Reading A) (f : A → Reading B) → Faults p → ((a : A) → Coded (f a)) → Faults (p >>= f)
unfolding Faults ◌>>=◌
bind_faults (got a) f h g = (g a).faults
bind_faults (stop r) f h g = h
bind_faults (room e r k) f h g = (h.0, bind_faults k f h.1 g)
bind_faults (byte q k) f h g = λ x. bind_faults (k x) f (h x) g

pub coded_bind : {A B : Type 0} {p : Reading A} {f : A → Reading B} → Coded p → ((a : A) → Coded (f a)) → Coded (p >>= f)
coded_bind {p = p} {f = f} h g = record { faults = bind_faults p f h.faults g }

-- one law for every width
pub coded_number : (w p : ℕ) → Coded (number w p)
unfolding number
coded_number zero p = coded_got
coded_number (suc w) p = coded_byte (λ x. coded_bind (coded_number w (p + 1)) (λ r. coded_got))

pub coded_many : {S A : Type 0} {p : S → Reading A} (next : A → S → S) (n : ℕ) (at : S) → ((at : S) → Coded (p at)) → Coded (many p next n at)
unfolding many
coded_many next zero at one = coded_got
coded_many next (suc n) at one = coded_bind (one at) (λ a. coded_bind (coded_many next n (next a at) one) (λ vs. coded_got))

pub coded_each : {A B : Type 0} {f : A → Reading B} (vs : List A) → ((a : A) → Coded (f a)) → Coded (each f vs)
unfolding each
coded_each [] one = coded_got
coded_each (a ∷ vs) one = coded_bind (one a) (λ b. coded_bind (coded_each vs one) (λ bs. coded_got))

pub ruleset coded = (coded_got, coded_stop, coded_room, coded_byte, coded_choose, coded_demand, coded_bind, coded_number, coded_many, coded_each)
