-- A longer blob that agrees with an accepted one on every byte that its reading rests on is read the same.
-- It holds of every reading, whatever format it reads.
use Rattle.std.specs.Prelude.{ℕ, ◌≤◌, ◌≡◌, refl, List, [], Bool, true, false, length, get_or, leb}
use Rattle.std.proofs.Common.{arith, le-leb, leb-true}
use Rattle.blob.specs.Places.{Each}
use Rattle.blob.proofs.Laws.{never}
use Rattle.blob.specs.Reading.{Reading, got, stop, room, byte, done, refused, choose, run, places}

-- two blobs agree on each of some places
abbrev pub Agree : List ℕ → List ℕ → List ℕ → Type 0
Agree s t ps = Each (λ p. get_or t p 0 ≡ get_or s p 0) ps

pub longer : {A : Type 0} (r : Reading A) (s t : List ℕ) (a : A) → length s ≤ length t → Agree s t (places r s) → run r s ≡ done a → run r t ≡ done a
unfolding run places
longer (got x) s t a le ag h = h
longer (stop x) s t a le ag h = absurd (never _ _ h)
longer (room e x k) s t a le ag h = go (longer k s t a le) (leb e (length s)) refl ag h
  where
    go : (Agree s t (places k s) → run k s ≡ done a → run k t ≡ done a)
        → (b : Bool) → leb e (length s) ≡ b → Agree s t (choose b (places k s) [])
        → choose b (run k s) (refused (x.told (length s))) ≡ done a → choose (leb e (length t)) (run k t) (refused (x.told (length t))) ≡ done a
    go ih true eq ag h = rw (le-leb e (length t) (omega (arith, leb-true e (length s) eq))) (ih ag h)
    go ih false eq ag h = absurd (never _ _ h)
longer (byte p k) s t a le ag h = rw ag.0 (longer (k (get_or s p 0)) s t a le ag.1 h)
