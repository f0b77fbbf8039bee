-- What the answer for the end of a region tells of its reading.
use Rattle.std.specs.Prelude.{ℕ, ◌+◌, ◌≤◌, ◌≡◌, List, eqb, Ok, Err}
use Rattle.std.proofs.Common.{ap, sym, ◌∙◌, arith}
use borrow.Author.Tests.{leb-true}
use Rattle.std.proofs.Math.ListN.{length}
use Rattle.blob.specs.declared.Refusal.{Refusal}
use Rattle.blob.specs.Reading.{Outcome, done, refused, run}
use Rattle.blob.proofs.Laws.{result_found, result_refused}
use Rattle.blob.proofs.Finds.{Finds, finds-got, finds-room, finds-choose, finds-demand, finds_bind}
use Rattle.format.specs.Region.{end, bounded, region_at, end_read}

module _ {A : Type 0} (told : A → ℕ) where
  pub is_end : (o : Outcome A) (e : ℕ) → Ok e ≡ end_read told o → (a : A) × (o ≡ done a) × (e ≡ told a)
  is_end o e h = result_found told o e h

  pub no_end : (o : Outcome A) (r : Refusal) → Err r ≡ end_read told o → o ≡ refused r
  no_end o r h = result_refused told o r h

pub is_place : (o : Outcome ℕ) (e : ℕ) → Ok e ≡ end_read (λ a. a) o → o ≡ done e
is_place o e h = let t = is_end (λ a. a) o e h in t.1 ∙ ap done (sym t.2)

-- a region ends behind the header, and within the blob
module _ (f at size least : ℕ) (s : List ℕ) (h : at + least ≤ length s) where
  region-ends : Finds (region_at f at size least) s (λ region. (at + least ≤ end (length s) region) × (end (length s) region ≤ length s))
  unfolding region_at bounded
  region-ends =
      finds-choose (eqb size 0) (λ z. finds-got (h, omega arith)) (λ z.
      finds_bind (λ e. (at + least ≤ e) × (e ≤ length s))
      (finds-demand _ _ (λ d. finds-room (λ w. finds-got (omega (arith, leb-true least size d), w)))) (λ e g. finds-got g))

  pub region-bounds : (e : ℕ) → Ok e ≡ end_read (end (length s)) (run (region_at f at size least) s) → (at + least ≤ e) × (e ≤ length s)
  region-bounds e g =
      let t = is_end (end (length s)) _ e g in
      rw t.2 (region-ends.found t.0 t.1)
