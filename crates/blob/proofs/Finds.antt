-- What an accepted reading finds, worked out by one rule for each form of a reading.
use Rattle.std.specs.Prelude.{ℕ, ◌≤◌, ◌≡◌, refl, List, Bool, true, false, length}
use Rattle.std.proofs.Common.{sym, ◌∙◌, leb-true}
use Rattle.std.proofs.Math.Path.{subst}
use Rattle.blob.specs.Le.{le}
use Rattle.blob.specs.Reading.{Fault, Reading, got, room, done, choose, demand, run, ◌>>=◌, number}
use Rattle.blob.proofs.Laws.{same, choose-done, then-done, run_bind, run-number, run-demand}

-- where the reading is accepted, its value is as P says
pub record Finds {A : Type 0} (r : Reading A) (s : List ℕ) (P : A → Type 0) : Type 0 where
  pub found : (a : A) → run r s ≡ done a → P a

module _ {A : Type 0} {s : List ℕ} {P : A → Type 0} where
  pub finds-got : {a : A} → P a → Finds (got a) s P
  unfolding run
  finds-got {a} h = record { found = λ b e. subst P (same a b e) h }

  pub finds-room : {e : ℕ} {r : Fault} {k : Reading A} → (e ≤ length s → Finds k s P) → Finds (room e r k) s P
  unfolding run
  finds-room {e} {r} {k} h = record { found = λ b d. let t = choose-done _ (run k s) _ b d in (h (leb-true e (length s) t.0)).found b t.1 }

  pub finds-choose : (t : Bool) {k l : Reading A} → (t ≡ true → Finds k s P) → (t ≡ false → Finds l s P) → Finds (choose t k l) s P
  finds-choose true h g = h refl
  finds-choose false h g = g refl

  pub finds-demand : (t : Bool) (r : Fault) {k : Reading A} → (t ≡ true → Finds k s P) → Finds (demand t r k) s P
  finds-demand t r {k} h = record { found = λ b d. let x = choose-done t (run k s) _ b (sym (run-demand t r k s) ∙ d) in (h x.0).found b x.1 }

pub finds_bind : {A B : Type 0} {s : List ℕ} (Q : A → Type 0) {P : B → Type 0} {p : Reading A} {f : A → Reading B}
    → Finds p s Q → ((a : A) → Q a → Finds (f a) s P) → Finds (p >>= f) s P
finds_bind {A} {B} {s} Q {P} {p} {f} h g =
    record { found = λ b e. let t = then-done (run p s) (λ a. run (f a) s) b (sym (run_bind p f s) ∙ e) in (g t.0 (h.found t.0 t.1)).found b t.2 }

-- one rule for every width
pub finds-next : {B : Type 0} {s : List ℕ} {P : B → Type 0} (w p : ℕ) {f : ℕ → Reading B} → ((a : ℕ) → a ≡ le w s p → Finds (f a) s P) → Finds (number w p >>= f) s P
finds-next {B} {s} w p {f} h = record { found = λ b e. (h (le w s p) refl).found b (sym (run-number w p f s) ∙ e) }
