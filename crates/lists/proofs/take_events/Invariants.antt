-- The invariant: what is left decides.
use Prim.Native.Nat.{ℕ, ◌+◌}
use mathlib.Core.Path.{◌≡◌}
use mathlib.Core.List.{◌++◌}
use lib.ListN.{length}
use Rattle.lists.specs.Owners.{given, claim}
use Rattle.lists.proofs.take_events.Given as goal

abbrev pub invariant-loop-at : goal.invariant-loop-at
invariant-loop-at l =
    let end = l.first + l.count in
    (length l.owners ≡ length l.initial.owners) × ((i : ℕ) → given l.initial.owners i ++ claim l.first end l.provider i ≡ given l.owners i ++ claim l.at end l.provider i)
