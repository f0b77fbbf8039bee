-- A size of 0 ends the region with the blob; any other is `bounded`.
use borrow.Author.Tests.{eq-eqb, ne_eqb}
use mathlib.Core.Path.{◌≡◌, refl, ◌∙◌}
use mathlib.Core.List.{List}
use Prim.Native.Nat.{ℕ}
use Rattle.blob.specs.Reading.{Reading, Outcome, done, refused, got, run, then, ◌>>=◌}
use Rattle.blob.proofs.Laws.{run_bind}
use Rattle.format.specs.Region.{until, end, end_read, region_at}
use Rattle.bounds.proofs.region_end.Goals as goal

-- a bounded region's end is the end that was read
until_end : (r : Reading ℕ) (s : List ℕ) (n : ℕ) → end_read (λ e. e) (run r s) ≡ end_read (end n) (run (r >>= λ e. got (until e)) s)
unfolding run then
until_end r s n = rw run_bind (go (run r s))
  where
    go : (o : Outcome ℕ) → end_read (λ e. e) o ≡ end_read (end n) (then o (λ e. done (until e)))
    go (done e) = refl
    go (refused x) = refl

pub returns-then-size-eq0 : goal.returns-then-size-eq0
unfolding run region_at
returns-then-size-eq0 c = rw (eq-eqb _ _ c.if-size-eq0.true)

pub returns : goal.returns
unfolding region_at
returns c = rw (ne_eqb _ _ c.before.if-size-eq0.false) (c.bounded.ensures ∙ until_end _ _ _)
