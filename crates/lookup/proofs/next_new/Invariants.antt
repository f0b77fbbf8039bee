-- The invariant: what is left decides.
use Prim.Native.Nat.{ℕ}
use mathlib.Core.Path.{◌≡◌}
use mathlib.Core.List.{List, ◌++◌}
use Rattle.lookup.specs.Given.{from, numbers, firsts}
use Rattle.lookup.proofs.next_new.Given as goal

abbrev pub invariant-loop-number : goal.invariant-loop-number
invariant-loop-number l =
    (others : List ℕ) → firsts l.words l.list l.initial.marks (numbers l.words l.templates l.key l.events ++ others)
    ≡ firsts l.words l.list l.marks (numbers l.words l.templates l.key (from l.events l.number) ++ others)
