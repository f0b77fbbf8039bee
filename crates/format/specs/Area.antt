-- The lists that have an area in the lent words: a row for each, in the order of the areas. All that goes over the lists goes over these
-- rows; capacities, counts and needs are a number for each of them, in their order. "11 .. lent singly" has no area.
use Rattle.std.specs.Prelude.{ℕ, suc, ◌+◌, List, [], ◌∷◌, map, get_or, set, eqb}
use Rattle.blob.specs.Reading.{choose}

-- the lists' numbers: "1 providers", "2 descriptors", .. (the lists)
abbrev pub PROVIDERS : ℕ
PROVIDERS = 1

abbrev pub DESCRIPTORS : ℕ
DESCRIPTORS = 2

abbrev pub UNKNOWN2 : ℕ
UNKNOWN2 = 3

abbrev pub TABLES : ℕ
TABLES = 4

abbrev pub DEFINITIONS : ℕ
DEFINITIONS = 5

abbrev pub EVENTS : ℕ
EVENTS = 6

abbrev pub MAPS : ℕ
MAPS = 7

abbrev pub ENTRIES : ℕ
ENTRIES = 8

abbrev pub TEMPLATES : ℕ
TEMPLATES = 9

abbrev pub UNKNOWN : ℕ
UNKNOWN = 10

-- "list 12's area and capacity come last" (request 01)
abbrev pub ITEMS : ℕ
ITEMS = 12

-- "list number 11", lent singly
abbrev pub GUIDS : ℕ
GUIDS = 11

pub record Row : Type 0 where
  pub number : ℕ
  -- of an entry
  pub words : ℕ

abbrev row : ℕ → ℕ → Row
row n w = record { number = n; words = w }

abbrev pub rows : List Row
rows =
    row PROVIDERS 9
    ∷ row DESCRIPTORS 3
    ∷ row UNKNOWN2 1
    ∷ row TABLES 9
    ∷ row DEFINITIONS 13
    ∷ row EVENTS 16
    ∷ row MAPS 12
    ∷ row ENTRIES 2
    ∷ row TEMPLATES 13
    ∷ row UNKNOWN 4
    ∷ row ITEMS 10
    ∷ []

-- how many they are
abbrev pub AREAS : ℕ
AREAS = 11

-- no entry has more words
abbrev pub WIDEST : ℕ
WIDEST = 16

-- which row is a list's, by its number
abbrev pub place_in : List Row → ℕ → ℕ
place_in [] l = 0
place_in (r ∷ rs) l = choose (eqb r.number l) 0 (suc (place_in rs l))

abbrev pub place : ℕ → ℕ
place l = place_in rows l

-- the words of a list's entries
abbrev pub width : ℕ → ℕ
width l = get_or (map (λ r. r.words) rows) (place l) 0

-- no entries in any list
abbrev pub none : List ℕ
none = map (λ r. 0) rows

-- a list's number of them, and so many more of them
abbrev pub of : ℕ → List ℕ → ℕ
of l ns = get_or ns (place l) 0

abbrev pub more : ℕ → ℕ → List ℕ → List ℕ
more l n ns = set ns (place l) (of l ns + n)
