-- The code's way through a number: byte by byte, what is left decides.
use Prim.Native.Nat.{ℕ, zero, suc, ◌+◌, ◌*◌, ◌/◌, ◌%◌, ◌≤◌}
use Rattle.std.specs.Prelude.{◌≡◌, Bool, not, ◌&&◌, ◌||◌, length, eqb, Result, Ok, Err}
use Rattle.std.proofs.Math.Bool.{true, false}
use mathlib.Core.List.{List, [], ◌∷◌}
use Rattle.std.proofs.Math.ListN.{drop}
use Rattle.std.proofs.Math.Dec.{leb, ltb}
use Rattle.blob.specs.Reading.{Outcome, choose, answer, verdict}
use Rattle.number.specs.Number.{LONGEST, BYTE, HALF, WORD, LONG, upto, ended, value, padded, number_at}
use Rattle.number.specs.declared.Number.{Number}
use Rattle.number.specs.declared.Width.{Width}
use Rattle.number.specs.declared.Width.TheVariants.{Byte, Half, Word, Long}
use Rattle.number.specs.declared.Fault.{Fault}
use Rattle.number.specs.declared.Fault.TheVariants.{Cut, Wrong}

-- the largest number that has a width
abbrev pub most : Width → ℕ
most Byte = BYTE
most Half = HALF
most Word = WORD
most Long = LONG

abbrev pub code : Fault → ℕ
code Cut = 15
code Wrong = 16

-- the fault with a code
abbrev pub coded : ℕ → Fault
coded c = choose (eqb c 15) Cut Wrong

abbrev pub passed : Outcome Number → Result ℕ Fault
passed o = answer (λ n. Ok n.behind) (λ r. Err (coded r.code)) o

-- the widths' largest numbers have only ones
unfoldable pub ones : ℕ → ℕ → Bool
ones zero m = true
ones (suc k) m = ltb m 128 || (eqb (m % 128) 127 && ones k (m / 128))

-- a last byte that is one
abbrev pub last : ℕ → ℕ → Bool → Bool
last byte limit first = leb byte limit && (first || not (eqb byte 0))

-- what is found from a byte of a number on, with what its width leaves for the bytes from there on
unfoldable pub scan : (at left limit i : ℕ) → List ℕ → Result ℕ Fault
scan at zero limit i bs = Err Wrong
scan at (suc k) limit i [] = Err Cut
scan at (suc k) limit i (b ∷ bs) =
    choose (ltb b 128) (choose (last b limit (eqb i at)) (Ok (i + 1)) (Err Wrong)) (scan at k (limit / 128) (i + 1) bs)

-- a number stands at a place
abbrev pub Stands : List ℕ → ℕ → Type 0
Stands bytes at = verdict (number_at LONG bytes at) ≡ Ok tt

-- What is left of a number that stands: of its bytes, with the number that those before them said.
pub record Rest (bs : List ℕ) (i v scale total behind : ℕ) : Type 0 where
  pub left : ℕ
  pub ends : ended (upto left bs) ≡ true
  pub slim : padded (upto left bs) ≡ false
  pub adds : v + scale * value (upto left bs) ≡ total
  pub stops : i + length (upto left bs) ≡ behind

abbrev pub number_of : List ℕ → ℕ → List ℕ
number_of bytes at = upto LONGEST (drop at bytes)

-- what is known of a number that was read
pub record Read (m : ℕ) (bytes : List ℕ) (at : ℕ) (n : Number) : Type 0 where
  pub ends : ended (number_of bytes at) ≡ true
  pub slim : padded (number_of bytes at) ≡ false
  pub fits : value (number_of bytes at) ≤ m
  pub shown : n ≡ record { value = value (number_of bytes at); behind = at + length (number_of bytes at) }
