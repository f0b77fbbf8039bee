-- How a comparison goes on: what is left decides.
use Rattle.std.specs.Prelude.{ℕ, suc, ◌+◌, ◌-◌, ◌≤◌, ◌<◌, ◌≡◌, List, get_or}
use Rattle.std.proofs.Common.{arith, eq-eqb, ne_eqb}
use Rattle.replay.specs.Off.{off}

-- nothing is left behind the last
pub off-none : (a b : List ℕ) (n at : ℕ) → n ≤ at → off a b (n - at) at ≡ at
unfolding off
off-none a b n at h = let e : n - at ≡ 0 = omega arith in rw e

module _ (a b : List ℕ) (n at : ℕ) (h : at < n) where
  one_more : n - at ≡ suc (n - (at + 1))
  one_more = omega arith

  -- where the two are the same, the rest decides
  pub off-more : get_or a at 0 ≡ get_or b at 0 → off a b (n - (at + 1)) (at + 1) ≡ off a b (n - at) at
  unfolding off
  off-more e = rw one_more (simp (eq-eqb _ _ e))

  -- where they differ, that is the place
  pub off-here : (get_or a at 0 ≡ get_or b at 0 → ⊥) → at ≡ off a b (n - at) at
  unfolding off
  off-here e = rw one_more (simp (ne_eqb _ _ e))
