-- A GUID is found wherever it is looked for: four words.
use Rattle.std.specs.Prelude.{ℕ, ◌+◌, ◌≡◌, List}
use Rattle.blob.specs.Le.{le}
use Rattle.blob.specs.Reading.{done, run}
use Rattle.blob.proofs.Laws.{run-number}
use Rattle.format.specs.Definition.{guid_at}

pub guid-found : (at : ℕ) (s : List ℕ) → run (guid_at at) s ≡ done (record { a = le 4 s at; b = le 4 s (at + 4); c = le 4 s (at + 8); d = le 4 s (at + 12) })
unfolding run guid_at
guid-found at s = simp run-number
