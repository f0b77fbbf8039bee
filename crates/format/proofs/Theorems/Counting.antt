-- Counting what values in a row have, one after another: the answer with so many counted before, and what the next value makes of it.
use Rattle.std.specs.Prelude.{ℕ, ◌+◌, ◌-◌, ◌≤◌, ◌<◌, ◌≡◌, refl, List, [], Ok, Result}
use Rattle.std.proofs.Math.Path.{ap}
use Rattle.std.proofs.Common.{arith}
use Rattle.blob.specs.declared.Refusal.{Refusal}
use Rattle.blob.specs.Reading.{Reading, Outcome, done, refused, run, many}
use Rattle.blob.proofs.Laws.{told_more}
use Rattle.format.specs.Answer.{capped}
use Rattle.format.specs.Steps.Needs.{total, count_read}

module _ {A : Type 0} (count : A → ℕ) where
  abbrev pub counted_from : ℕ → Outcome (List A) → Result ℕ Refusal
  counted_from n o = count_read (λ vs. n + total count vs) o

  pub counted-all : (o : Outcome (List A)) → count_read (total count) o ≡ counted_from 0 o
  counted-all (done vs) = ap Ok (omega arith)
  counted-all (refused r) = refl

  pub counted_none : (n : ℕ) → n ≤ 65537 → counted_from n (done []) ≡ Ok n
  unfolding total
  counted_none n h = ap Ok (omega arith)

  pub counted-more : {S : Type 0} (p : S → Reading A) (next : A → S → S) (left : ℕ) (at : S) (s : List ℕ) (a : A) → 0 < left → run (p at) s ≡ done a
      → (n r : ℕ) → r ≡ capped (n + count a) → counted_from n (run (many p next left at) s) ≡ counted_from r (run (many p next (left - 1) (next a at)) s)
  unfolding total
  counted-more p next left at s a h found n r q =
      told_more p next (counted_from n) (counted_from r) left at s a (λ vs. ap Ok (omega (arith, q))) (λ r. refl) h found
