-- Which provider an event of the lists belongs to, and the events with a found template (request 05).
use Rattle.std.specs.Prelude.{ℕ, zero, suc, ◌+◌, Bool, true, false, not, ◌&&◌, ◌||◌, List, [], ◌∷◌, ◌++◌, map, length, leb, ltb, eqb}
use Rattle.blob.specs.Reading.{choose}
use Rattle.format.specs.Area.{TABLES, EVENTS, TEMPLATES, of}
use Rattle.format.specs.Entry.{TABLE_PROVIDER, TABLE_KIND, TABLE_FIRST, TABLE_COUNT, EVENT_TEMPLATE, TEMPLATE_OFFSET}
use Rattle.format.specs.Table.{EVNT, TTBL}
use Rattle.format.specs.Lists.{Entry}
use Rattle.format.specs.Lookup.{entries_of, word_of, select, owned_by}
use Rattle.format.specs.Join.{those, some}

-- one of some numbers
unfoldable pub member : ℕ → List ℕ → Bool
member n [] = false
member n (m ∷ ms) = eqb n m || member n ms

-- "A provider's first table entry of a kind is used." (finding a template): these entries, of providers that are not yet seen
unfoldable pub firsts : ℕ → List ℕ → List Entry → List Entry
firsts kind seen [] = []
firsts kind seen (t ∷ ts) =
    choose (eqb (word_of TABLE_KIND t) kind && not (member (word_of TABLE_PROVIDER t) seen))
    (t ∷ firsts kind (word_of TABLE_PROVIDER t ∷ seen) ts)
    (firsts kind seen ts)

-- whether a table entry's range has an entry, by its number
abbrev pub ranges : ℕ → Entry → Bool
ranges i t = leb (word_of TABLE_FIRST t) i && ltb i (word_of TABLE_FIRST t + word_of TABLE_COUNT t)

-- the providers that have an event, by its number, in their EVNT range
abbrev pub owners_of : List Entry → ℕ → List ℕ
owners_of tables i = map (word_of TABLE_PROVIDER) (select (ranges i) (firsts EVNT [] tables))

-- "10 for .. an event in no provider's EVNT range or in two": whether none of n events is, from a number on
unfoldable pub each_owned : List Entry → ℕ → ℕ → Bool
each_owned tables zero i = true
each_owned tables (suc n) i = eqb (length (owners_of tables i)) 1 && each_owned tables n (suc i)

-- whether a provider's event has a template offset, and a template there in the range of the provider's first table entry of kind 8
abbrev pub finds : List Entry → List Entry → Entry → ℕ → Bool
finds tables templates e provider =
    not (eqb (word_of EVENT_TEMPLATE e) 0) && some (λ t. eqb (word_of TEMPLATE_OFFSET t) (word_of EVENT_TEMPLATE e)) (owned_by tables provider TTBL templates)

-- "every event with a found template .. in list order": the events, from a number on, that have one, each behind its provider's number
unfoldable pub found_from : List Entry → List Entry → ℕ → List Entry → List Entry
found_from tables templates i [] = []
found_from tables templates i (e ∷ es) = map (λ p. p ∷ e) (those (finds tables templates e) (owners_of tables i)) ++ found_from tables templates (suc i) es

module _ (words capacities counts : List ℕ) where
  abbrev pub events_owned : Bool
  events_owned = each_owned (entries_of words capacities counts TABLES) (of EVENTS counts) 0

  abbrev pub found_events : List Entry
  found_events = found_from (entries_of words capacities counts TABLES) (entries_of words capacities counts TEMPLATES) 0 (entries_of words capacities counts EVENTS)
