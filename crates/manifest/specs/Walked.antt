-- The walk over the providers that are left: what they need.
use Rattle.std.specs.Prelude.{ℕ, ◌+◌, ◌-◌, ◌<◌, ◌≡◌, refl, Ok, Err}
use Rattle.std.proofs.Math.Path.{ap}
use Rattle.std.proofs.Common.{sym}
use mathlib.Core.List.{List}
use Rattle.blob.specs.declared.Refusal.{Refusal}
use Rattle.blob.specs.Reading.{done, refused, run, many}
use Rattle.blob.proofs.Laws.{told_more, many-refused}
use Rattle.format.specs.Definition.{step}
use Rattle.format.specs.Provider.{Provider}
use Rattle.format.specs.Crim.{described_at}
use Rattle.format.specs.Steps.Needs.{needs_of, plus, needs_all, providers_read}

module _ (s : List ℕ) (left at : ℕ) (h : 0 < left) where
  pub needs_more : (p : Provider) → run (described_at at) s ≡ done p → (ns ms : List ℕ) → ms ≡ plus ns (needs_of p)
      → providers_read ns (run (many described_at (step 20) left at) s) ≡ providers_read ms (run (many described_at (step 20) (left - 1) (at + 20)) s)
  unfolding needs_all
  needs_more p e ns ms f =
      told_more described_at (step 20) (providers_read ns) (providers_read ms) left at s p
      (λ ps. ap (λ (ks : List ℕ). Ok (needs_all ks ps)) (sym f)) (λ r. refl) h e

  pub needs_stop : (r : Refusal) → run (described_at at) s ≡ refused r → (ns : List ℕ)
      → providers_read ns (run (many described_at (step 20) left at) s) ≡ Err r
  needs_stop r e ns = ap (providers_read ns) (many-refused described_at (step 20) left at s r h e)
