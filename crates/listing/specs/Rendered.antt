-- A listing's lines as bytes. "A line's pieces are parted by one space, numbers are decimal, and each line ends in a newline." (Listing)
use Rattle.std.specs.Prelude.{ℕ, zero, suc, ◌+◌, ◌/◌, ◌%◌, List, [], ◌∷◌, ◌++◌, ltb}
use Prim.Native.Char.{code}
use Prim.Native.String as string
use Prim.Native.String.{String}
use Rattle.blob.specs.Reading.{choose}
use Rattle.blob.specs.Laid.{flat}
use Rattle.format.specs.Listing.{Piece, says, number}

-- a text's characters, as their numbers; those of a listing are ASCII, a byte each
abbrev pub characters : String → List ℕ
characters string.[] = []
characters (string.◌∷◌ c s) = code c ∷ characters s

-- at most so many digits of a number, the most significant first and none of them a leading 0
unfoldable pub digits : ℕ → ℕ → List ℕ
digits zero n = []
digits (suc most) n = choose (ltb n 10) ((48 + n) ∷ []) (digits most (n / 10) ++ ((48 + n % 10) ∷ []))

-- a number in decimal, which has no more digits than this
abbrev pub decimal : ℕ → List ℕ
decimal n = digits (suc n) n

abbrev pub piece : Piece → List ℕ
piece (says s) = characters s
piece (number n) = decimal n

-- a space and a newline
abbrev pub space : ℕ
space = 32

abbrev pub newline : ℕ
newline = 10

unfoldable pub line : List Piece → List ℕ
line [] = newline ∷ []
line (p ∷ []) = piece p ++ (newline ∷ [])
line (p ∷ q ∷ ps) = piece p ++ (space ∷ line (q ∷ ps))

abbrev pub rendered : List (List Piece) → List ℕ
rendered ls = flat line ls
