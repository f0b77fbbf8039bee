-- What it is that one block is another, longer one, and that the lent words have room for some lists: what the theorem that a longer block
-- never shifts an old figure supposes.
use Prim.{Unit}
use Rattle.std.specs.Prelude.{ℕ, ◌≤◌, ◌<◌, ◌≡◌, List, [], ◌∷◌, length, get_or}
use Rattle.blob.specs.Le.{le}
use Rattle.blob.specs.Places.{Each}
use Rattle.format.specs.Crim.{Crim}
use Rattle.format.specs.Area.{rows}
use Rattle.format.specs.Lists.{Entry}
use Rattle.format.specs.Answer.{areas}
use Rattle.format.specs.Rests.{providers_bytes, rests_on}

-- bytes 4 to 7, which hold CRIM.size
abbrev pub SizeByte : ℕ → Type 0
SizeByte p = (4 ≤ p) × (p ≤ 7)

-- the second blob against an accepted first
pub record Longer (first second : List ℕ) (c : Crim) : Type 0 where
  -- both are lists of bytes
  pub bytes_first : Each (λ b. b < 256) first
  pub bytes_second : Each (λ b. b < 256) second
  -- CRIM.size m ≥ n
  pub longer : c.header.size ≤ le 4 second 4
  -- wholly lent within at most 16,777,216 bytes
  pub wholly : le 4 second 4 ≤ length second
  pub at_most : length second ≤ 16777216
  -- it agrees on every byte that the reading rests on, bytes 4 to 7 excepted
  pub agrees : Each (λ p. (SizeByte p → ⊥) → get_or second p 0 ≡ get_or first p 0) (rests_on c)
  -- m = n if the reading takes any of those for anything besides CRIM.size
  pub taken : Each (λ p. SizeByte p → le 4 second 4 ≡ c.header.size) (providers_bytes c.providers)

-- each list has no more entries than its capacity
abbrev pub Within : List ℕ → List (List Entry) → Type 0
Within cs [] = Unit {0}
Within [] (l ∷ ls) = Unit {0}
Within (c ∷ cs) (l ∷ ls) = (length l ≤ c) × Within cs ls

-- lent words and capacities with room for some lists
pub record Room (words : List ℕ) (capacities : List ℕ) (ls : List (List Entry)) : Type 0 where
  pub moderate : Each (λ c. c ≤ 65536) capacities
  pub enough : areas rows capacities ≤ length words
  pub within : Within capacities ls
