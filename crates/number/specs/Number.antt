-- A number in seven-bit groups. "All numbers are unsigned, in seven-bit groups, low group first, high bit set on all but the last byte,
-- shortest form only, at most ten bytes." (request 05)
use Rattle.std.specs.Prelude.{ℕ, zero, suc, ◌+◌, ◌*◌, ◌/◌, ◌%◌, Bool, false, not, ◌&&◌, ◌||◌, List, [], ◌∷◌, length, drop, leb, ltb, eqb}
use Rattle.blob.specs.Reading.{Outcome, done, refused, choose}
use Rattle.blob.specs.declared.Refusal.{Refusal}
use Rattle.number.specs.declared.Number.{Number}

abbrev pub LONGEST : ℕ
LONGEST = 10

-- the widths, each by the largest number that has it: 8, 16, 32 and 64 bits
abbrev pub BYTE : ℕ
BYTE = 255

abbrev pub HALF : ℕ
HALF = 65535

abbrev pub WORD : ℕ
WORD = 4294967295

abbrev pub LONG : ℕ
LONG = 18446744073709551615

-- the bytes of a number, of at most so many
unfoldable pub form_of : ℕ → ℕ → List ℕ
form_of zero n = []
form_of (suc k) n = choose (ltb n 128) (n ∷ []) ((128 + n % 128) ∷ form_of k (n / 128))

abbrev pub form : ℕ → List ℕ
form n = form_of LONGEST n

-- some bytes up to the last byte of a number, of at most so many
unfoldable pub upto : ℕ → List ℕ → List ℕ
upto zero bs = []
upto (suc k) [] = []
upto (suc k) (b ∷ bs) = b ∷ choose (ltb b 128) [] (upto k bs)

-- whether a last byte is among them
unfoldable pub ended : List ℕ → Bool
ended [] = false
ended (b ∷ bs) = ltb b 128 || ended bs

-- the number that they say
unfoldable pub value : List ℕ → ℕ
value [] = 0
value (b ∷ bs) = b % 128 + 128 * value bs

-- the last of some bytes, or another where there is none
unfoldable pub last_or : ℕ → List ℕ → ℕ
last_or d [] = d
last_or d (b ∷ bs) = last_or b bs

-- "longer than shortest": the last of them, behind others, has a zero group
abbrev pub padded : List ℕ → Bool
padded bs = eqb (last_or 1 (drop 1 bs)) 0

-- "placed at its first byte"
abbrev pub fault : ℕ → ℕ → Refusal
fault code at = record { code = code; field = 0; place = at; first = 0; second = 0 }

-- The number at a place, of a width. "15 if the bytes run out before a last byte and before ten, 16 for ten without one, longer than
-- shortest or past its width"
unfoldable pub number_at : ℕ → List ℕ → ℕ → Outcome Number
number_at most bytes at =
    let bs = upto LONGEST (drop at bytes) in
    choose (ended bs)
    (choose (leb (value bs) most && not (padded bs)) (done (record { value = value bs; behind = at + length bs })) (refused (fault 16 at)))
    (refused (fault (choose (eqb (length bs) LONGEST) 16 15) at))
