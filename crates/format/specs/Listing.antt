-- The listing of a block: its lines, of texts and numbers. A line's pieces are parted by one space, numbers are decimal, and each line
-- ends in a newline. "the program takes 65,536 bytes, 64 entries a list"; "A refusal prints `refused CODE PLACE`; longer input prints
-- `too long`. Template lines come in list order." (cases)
use Rattle.std.specs.Prelude.{ℕ, List, [], ◌∷◌, map, length, replicate, get_or, leb}
use Prim.Native.String.{String}
use Rattle.blob.specs.Reading.{Outcome, done, refused, choose}
use Rattle.format.specs.Area.{PROVIDERS, EVENTS, TEMPLATES, rows, place}
use Rattle.format.specs.Entry.{TEMPLATE_PROVIDER, TEMPLATE_OFFSET, TEMPLATE_SIZE, TEMPLATE_START, TEMPLATE_LENGTH}
use Rattle.format.specs.Crim.{Crim}
use Rattle.format.specs.Lists.{Entry, lists}
use Rattle.format.specs.Answer.{areas, reading}

pub data Piece : Type 0 where
  says : String → Piece
  number : ℕ → Piece

abbrev pub sixty_four : List ℕ
sixty_four = map (λ r. 64) rows

-- a template entry's offset, provider, size, BinXML start and length
abbrev pub template_line : Entry → List Piece
template_line t =
    says "template" ∷ number (get_or t TEMPLATE_OFFSET 0) ∷ says "provider" ∷ number (get_or t TEMPLATE_PROVIDER 0)
    ∷ says "size" ∷ number (get_or t TEMPLATE_SIZE 0)
    ∷ says "binxml" ∷ number (get_or t TEMPLATE_START 0) ∷ number (get_or t TEMPLATE_LENGTH 0) ∷ []

abbrev pub lines : Outcome Crim → List (List Piece)
lines (done c) =
    let list : ℕ → List Entry = λ l. get_or (lists c.providers) (place l) [] in
    (says "crim" ∷ number c.header.size ∷ says "providers" ∷ number (length (list PROVIDERS))
    ∷ says "events" ∷ number (length (list EVENTS)) ∷ says "templates" ∷ number (length (list TEMPLATES)) ∷ [])
    ∷ map template_line (list TEMPLATES)
lines (refused r) = (says "refused" ∷ number r.code ∷ number r.place ∷ []) ∷ []

unfoldable pub listing : List ℕ → List (List Piece)
listing bytes =
    choose (leb (length bytes) 65536) (lines (reading bytes (replicate (areas rows sixty_four) 0) sixty_four)) ((says "too long" ∷ []) ∷ [])
