-- What the functions that render a listing do to the bytes that are lent them.
use Rattle.std.specs.Prelude.{ℕ, zero, suc, ◌+◌, ◌*◌, ◌≡◌, List, [], ◌∷◌, ◌++◌, length, get_or, take}
use Rattle.blob.specs.Laid.{laid}
use Rattle.format.specs.Area.{Row, rows, PROVIDERS, EVENTS, TEMPLATES, place, width, of}
use Rattle.format.specs.Entry.{TEMPLATE_PROVIDER, TEMPLATE_OFFSET, TEMPLATE_SIZE, TEMPLATE_START, TEMPLATE_LENGTH}
use Rattle.format.specs.Listing.{Piece, says, number}
use Rattle.listing.specs.Rendered.{decimal, newline, line, rendered}
use Rattle.format.specs.declared.Answer.{Answer}

-- bytes put at a place: where they end, and what the lent bytes hold then
pub record Put (before : List ℕ) (at : ℕ) (bytes : List ℕ) (end : ℕ) (after : List ℕ) : Type 0 where
  pub ends : end ≡ at + length bytes
  pub holds : after ≡ laid before at bytes

-- a line of four numbers, each behind a text
abbrev pub fourfold : (a : List ℕ) (i : ℕ) (b : List ℕ) (j : ℕ) (c : List ℕ) (k : ℕ) (d : List ℕ) (l : ℕ) → List ℕ
fourfold a i b j c k d l = (a ++ decimal i) ++ ((b ++ decimal j) ++ ((c ++ decimal k) ++ ((d ++ decimal l) ++ (newline ∷ []))))

-- the lines of a refusal and of an accepted block
abbrev pub refusal_line : ℕ → ℕ → List Piece
refusal_line code place = says "refused" ∷ number code ∷ number place ∷ []

abbrev pub block_line : ℕ → ℕ → ℕ → ℕ → List Piece
block_line size providers events templates =
    says "crim" ∷ number size ∷ says "providers" ∷ number providers ∷ says "events" ∷ number events ∷ says "templates" ∷ number templates ∷ []

-- the line of the template entry that stands at a place of the words, and those of n entries from a place on
abbrev pub line_at : List ℕ → ℕ → List Piece
line_at words at =
    says "template" ∷ number (get_or words (at + TEMPLATE_OFFSET) 0) ∷ says "provider" ∷ number (get_or words (at + TEMPLATE_PROVIDER) 0)
    ∷ says "size" ∷ number (get_or words (at + TEMPLATE_SIZE) 0)
    ∷ says "binxml" ∷ number (get_or words (at + TEMPLATE_START) 0) ∷ number (get_or words (at + TEMPLATE_LENGTH) 0) ∷ []

unfoldable pub lines_from : List ℕ → ℕ → ℕ → List (List Piece)
lines_from words zero at = []
lines_from words (suc n) at = line_at words at ∷ lines_from words n (at + width TEMPLATES)

-- the words of 64 entries of each of some lists; all that are lent, and where those of the templates start
abbrev pub sixty_four_of : List Row → ℕ
sixty_four_of [] = 0
sixty_four_of (r ∷ rs) = 64 * r.words + sixty_four_of rs

abbrev pub lent : ℕ
lent = sixty_four_of rows

abbrev pub templates_at : ℕ
templates_at = sixty_four_of (take (place TEMPLATES) rows)

-- all lines of an accepted block, by its answer and the words that it was read into
abbrev pub accepted_text : Answer → List ℕ → List ℕ
accepted_text a words =
    line (block_line a.first (of PROVIDERS a.counts) (of EVENTS a.counts) (of TEMPLATES a.counts)) ++ rendered (lines_from words (of TEMPLATES a.counts) templates_at)
