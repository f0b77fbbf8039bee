-- What is left of an entry to be stored: its next word, and nothing.
use Rattle.std.specs.Prelude.{ℕ, ◌+◌, ◌≤◌, ◌<◌, ◌≡◌, List, length, get_or, drop, set}
use Rattle.std.proofs.Common.{drop_of_length-le, drop-cons}
use native.Mathlib.Omega.{arith}
use Rattle.std.proofs.Math.Numerals.{add-one}
use Rattle.blob.specs.Laid.{laid}

module _ (a told : List ℕ) (to i : ℕ) where
  pub laid-rest : i < length told → laid a (to + i) (drop i told) ≡ laid (set a (to + i) (get_or told i 0)) (to + (i + 1)) (drop (i + 1) told)
  unfolding laid
  laid-rest h = let m : to + (i + 1) ≡ (to + i) + 1 = omega arith in rw (drop-cons told i 0 h, m, add-one i)

  pub laid_none : length told ≤ i → laid a (to + i) (drop i told) ≡ a
  unfolding laid
  laid_none h = rw (drop_of_length-le told {i = i} h)
