-- Where two runs of numbers differ.
use Rattle.std.specs.Prelude.{ℕ, zero, suc, ◌+◌, List, get_or, eqb}
use Rattle.blob.specs.Reading.{choose}

-- of n places from one on, the first at which the two differ; the place behind them where none does
unfoldable pub off : List ℕ → List ℕ → ℕ → ℕ → ℕ
off a b zero at = at
off a b (suc n) at = choose (eqb (get_or a at 0) (get_or b at 0)) (off a b n (at + 1)) at
