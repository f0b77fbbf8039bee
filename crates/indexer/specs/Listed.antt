-- What the code speaks of: the events that are listed, by the owners' words, and the bytes of their entries.
use Rattle.std.specs.Prelude.{ℕ, ◌+◌, ◌*◌, ◌≤◌, ◌≡◌, Bool, not, ◌&&◌, List, [], ◌∷◌, ◌++◌, map, length, get_or, take, drop, set, eqb}
use Rattle.blob.specs.Reading.{choose}
use Rattle.blob.specs.Laid.{flat}
use Rattle.number.specs.Number.{form}
use Rattle.format.specs.Area.{PROVIDERS, TABLES, EVENTS, TEMPLATES, width}
use Rattle.format.specs.Entry.{EVENT_TEMPLATE, TEMPLATE_OFFSET}
use Rattle.format.specs.Table.{TTBL}
use Rattle.format.specs.Lists.{Entry}
use Rattle.format.specs.Join.{some}
use Rattle.format.specs.Lookup.{entries_from, entries_of, word_of, every}
use Rattle.format.specs.Owner.{finds}
use Rattle.lists.specs.Found.{owned}
use Rattle.lists.specs.Owners.{NOBODY}
use Rattle.index.specs.Index.{Index, UNKNOWN2_COUNT, entry_of, fields_fit}
use Rattle.indexer.specs.declared.Known.{Known}
use Rattle.indexer.specs.declared.Extent.{Extent}

-- how many numbers an entry has
abbrev pub ENTRY : ℕ
ENTRY = 9

-- so many entries of a width stand in the words from a place on, no more than a list has
abbrev pub stand : (width count start : ℕ) → List ℕ → Type 0
stand width count start words = (start + width * count ≤ length words) × (count ≤ 65536)

-- the unknown2 counts of some providers
abbrev pub unknown2s : List Entry → List ℕ
unknown2s ps = map (word_of UNKNOWN2_COUNT) ps

-- their bytes, by where the first stands
abbrev pub count_bytes : List ℕ → (count start : ℕ) → List ℕ
count_bytes words count start = flat form (unknown2s (entries_from (width PROVIDERS) count start words))

-- the event at a place
abbrev pub event_at : List ℕ → ℕ → Entry
event_at words at = take (width EVENTS) (drop at words)

-- none of the events' fields is past its width
abbrev pub all_fit : List Entry → Bool
all_fit es = every (λ e. fields_fit e) es

-- a provider with its templates
abbrev pub known_of : List ℕ → List ℕ → List ℕ → ℕ → Known
known_of words capacities counts provider = record { provider = provider; templates = owned words capacities counts provider TTBL }

abbrev pub Knows : List ℕ → List ℕ → List ℕ → Known → Type 0
Knows words capacities counts k = k ≡ known_of words capacities counts k.provider

-- whether an event has a template offset, and one of some templates there
abbrev pub finds_in : List Entry → Entry → Bool
finds_in templates e = not (eqb (word_of EVENT_TEMPLATE e) 0) && some (λ t. eqb (word_of TEMPLATE_OFFSET t) (word_of EVENT_TEMPLATE e)) templates

-- the owners' words, with nobody's for each event, from a number on, that has no found template
unfoldable pub resolved_from : List Entry → List Entry → List ℕ → ℕ → List Entry → List ℕ
resolved_from tables templates owners i [] = owners
resolved_from tables templates owners i (e ∷ es) =
    resolved_from tables templates (set owners i (choose (finds tables templates e (get_or owners i 0)) (get_or owners i 0) NOBODY)) (i + 1) es

abbrev pub resolved : List ℕ → List ℕ → List ℕ → List ℕ → List ℕ
resolved words capacities counts owners =
    resolved_from (entries_of words capacities counts TABLES) (entries_of words capacities counts TEMPLATES) owners 0 (entries_of words capacities counts EVENTS)

-- the numbers of the event at a place
abbrev pub entry_at : List ℕ → ℕ → ℕ → List ℕ
entry_at words at provider = entry_of (provider ∷ event_at words at)

-- an event, behind its owner's number, if it has one; and those of events, from a number on
abbrev pub mine : ℕ → Entry → List Entry
mine owner e = choose (eqb owner NOBODY) [] ((owner ∷ e) ∷ [])

unfoldable pub listed_from : List ℕ → ℕ → List Entry → List Entry
listed_from owners i [] = []
listed_from owners i (e ∷ es) = mine (get_or owners i 0) e ++ listed_from owners (i + 1) es

-- by where the first stands
abbrev pub listed_at : List ℕ → List ℕ → (i count start : ℕ) → List Entry
listed_at owners words i count start = listed_from owners i (entries_from (width EVENTS) count start words)

-- how many they are, and the bytes of their entries
abbrev pub one_of : ℕ → ℕ
one_of owner = choose (eqb owner NOBODY) 0 1

abbrev pub formed : List Entry → List ℕ
formed fs = flat form (flat entry_of fs)

pub record Takes (fs : List Entry) (m : Extent) : Type 0 where
  pub counted : m.entries ≡ length fs
  pub sized : m.bytes ≡ length (formed fs)

module _ (words capacities counts owners : List ℕ) where
  -- the events that are listed, by the owners' words, and the index of them
  abbrev pub listed : List Entry
  listed = listed_from owners 0 (entries_of words capacities counts EVENTS)

  abbrev pub index_by : Index
  index_by = record { counts = unknown2s (entries_of words capacities counts PROVIDERS); entries = map entry_of listed }
