-- What the code speaks of: runs of entries, what is found in them, and whether lists fit together.
use Prim.{Unit, tt}
use Rattle.std.specs.Prelude.{Option, Some, None, Result, Ok, Err, ℕ, ◌+◌, ◌*◌, ◌-◌, ◌≤◌, ◌≡◌, Bool, true, ◌&&◌, List, [], ◌∷◌, length, get_or, take, drop, eqb}
use Rattle.blob.specs.Reading.{choose}
use Rattle.blob.specs.declared.Refusal.{Refusal}
use Rattle.format.specs.Area.{TABLES, TEMPLATES, rows, place, width}
use Rattle.format.specs.Entry.{TABLE_PROVIDER, TABLE_KIND, TABLE_FIRST, TABLE_COUNT, TEMPLATE_OFFSET}
use Rattle.format.specs.Table.{TTBL, kind_list}
use Rattle.format.specs.Lists.{Entry}
use Rattle.format.specs.Answer.{own, areas, lent_enough}
use Rattle.format.specs.Lookup.{entries_from, entries_of, word_of, alike, select, position, counts_fit, table_fits, tables_fit, table_owns, tables_own}
use Rattle.lists.specs.declared.Run.{Run}

-- the entries of a run
abbrev pub entries : ℕ → Run → List ℕ → List Entry
entries width r words = entries_from width r.count (r.start + width * r.first) words

-- a run that stands in the words, in a list of no more entries than a list has
abbrev pub few : ℕ → Run → List ℕ → Type 0
few width r words = (r.start + width * (r.first + r.count) ≤ length words) × (r.first + r.count ≤ 65536)

-- a whole list, by its row
abbrev pub run_of : List ℕ → List ℕ → ℕ → Run
run_of capacities counts row = record { start = areas rows (take row capacities); first = 0; count = get_or counts row 0 }

-- those of a run that are behind one of them, by its number
abbrev pub behind : Run → ℕ → Run
behind r n = record { start = r.start; first = n + 1; count = r.first + r.count - (n + 1) }

-- whether an entry has some words from one of its words on
abbrev pub has : ℕ → List ℕ → Entry → Bool
has from key e = alike (take (length key) (drop from e)) key

abbrev pub found : List ℕ → Option ℕ
found [] = None
found (n ∷ ns) = Some n

-- the number of the lowest of some templates at an offset; none or one
abbrev pub lowest : List ℕ → Run → ℕ → List ℕ
lowest words templates offset = position (λ t. eqb (word_of TEMPLATE_OFFSET t) offset) templates.first (entries (width TEMPLATES) templates words)

-- whether a table names what is there and, if it is a TTBL, has its own provider's templates; and whether each of some does
abbrev pub table_holds : List ℕ → List Entry → Entry → Bool
table_holds counts templates t = table_fits counts t && table_owns templates t

abbrev pub tables_hold : List ℕ → List Entry → List Entry → Bool
tables_hold counts templates ts = tables_fit counts ts && tables_own templates ts

-- a TTBL's range is one of some templates, as far as they go
abbrev pub range_within : Entry → Run → Type 0
range_within t templates = word_of TABLE_KIND t ≡ TTBL → word_of TABLE_FIRST t + word_of TABLE_COUNT t ≤ templates.count

-- 8 where not enough is lent; 10 where the lists don't fit together
abbrev pub fitting : Bool → Bool → Result Unit Refusal
fitting lent together = choose lent (choose together (Ok tt) (Err (own 10))) (Err (own 8))

module _ (words capacities counts : List ℕ) where
  abbrev pub fit : Result Unit Refusal
  fit = fitting (lent_enough capacities words) (counts_fit counts capacities)

  abbrev pub fit_together : Result Unit Refusal
  fit_together = fitting (lent_enough capacities words) (counts_fit counts capacities && tables_hold counts (entries_of words capacities counts TEMPLATES) (entries_of words capacities counts TABLES))

  -- as facts
  abbrev pub Fit : Type 0
  Fit = (lent_enough capacities words ≡ true) × (counts_fit counts capacities ≡ true)

-- a provider's first table entry of a kind; none or one
abbrev pub table_of : ℕ → ℕ → List Entry → List Entry
table_of provider kind tables = take 1 (select (λ t. eqb (word_of TABLE_PROVIDER t) provider && eqb (word_of TABLE_KIND t) kind) tables)

-- the run that it has in a list that starts at a place
abbrev pub range_in : ℕ → List Entry → Run
range_in start [] = record { start = start; first = 0; count = 0 }
range_in start (t ∷ ts) = record { start = start; first = word_of TABLE_FIRST t; count = word_of TABLE_COUNT t }

abbrev pub owned : List ℕ → List ℕ → List ℕ → ℕ → ℕ → Run
owned words capacities counts provider kind =
    range_in (areas rows (take (place (kind_list kind)) capacities)) (table_of provider kind (entries_of words capacities counts TABLES))
