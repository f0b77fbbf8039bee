-- A list that fits the lent words has as many entries as its count says, at most 65,536, and each is whole and of 32-bit words.
use Prim.{tt}
use Rattle.std.specs.Prelude.{ℕ, zero, suc, ◌+◌, ◌*◌, ◌≤◌, ◌<◌, ◌≡◌, List, length, take}
use Rattle.std.proofs.Common.{arith, length-take, length-drop}
use Rattle.blob.specs.Places.{Each}
use Rattle.format.specs.Area.{rows, place, width, of}
use Rattle.format.specs.Lists.{Entry}
use Rattle.format.specs.Answer.{areas}
use Rattle.format.specs.Lookup.{entries_from, entries_of}
use Rattle.format.proofs.Theorems.Known.{All, all-part}
use Rattle.lists.specs.Entries.{entries-length}
use Rattle.lists.specs.Fit.{inside}
use Rattle.lists.specs.Found.{Fit}

-- so many words, each a 32-bit one
abbrev pub Whole : ℕ → Entry → Type 0
Whole k e = (length e ≡ k) × Each (λ w. w < 4294967296) e

entries-whole : (words : List ℕ) → Each (λ w. w < 4294967296) words → (k n at : ℕ) → at + k * n ≤ length words → All (Whole k) (entries_from k n at words)
unfolding entries_from
entries-whole words b k zero at h = tt
entries-whole words b k (suc n) at h =
    let g : (at + k) + k * n ≤ length words = omega arith in
    ((rw (length-take, length-drop) (omega arith), all-part (λ w. w < 4294967296) k at words b), entries-whole words b k n (at + k) g)

-- a list, by its number
module _ (words capacities counts : List ℕ) (b : Each (λ w. w < 4294967296) words) (f : Fit words capacities counts) (l : ℕ) where
  pub list-whole : (length (entries_of words capacities counts l) ≡ of l counts) × (of l counts ≤ 65536) × All (Whole (width l)) (entries_of words capacities counts l)
  list-whole =
      let at = areas rows (take (place l) capacities) in
      let h = inside words capacities counts f (place l) in
      (entries-length (width l) words (of l counts) at, h.1, entries-whole words b (width l) (of l counts) at h.0)
