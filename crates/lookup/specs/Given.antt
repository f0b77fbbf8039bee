-- What the code speaks of: the templates that events give, each GUID once. Templates have their numbers in list 9, whatever provider has
-- them, and what was given is marked by these.
use Prim.{Unit}
use Prim.Native.Nat.{ℕ, zero, suc, ◌+◌, ◌*◌, ◌-◌, ◌/◌, ◌≤◌, ◌<◌, min}
use Rattle.std.specs.Prelude.{Option, Some, None, ◌≡◌, Bool, not, ◌&&◌, length, get_or, take, drop, set, replicate, eqb, leb}
use Rattle.std.proofs.Math.Path.{refl, ap, ap₂}
use Rattle.std.proofs.Common.{sym, ◌∙◌, subst, length-take, length-drop, take-take, ne_eqb, le-leb}
use Rattle.std.proofs.Math.Bool.{true, false}
use mathlib.Core.List.{List, [], ◌∷◌, ◌++◌, map, append_assoc}
use native.Mathlib.Omega.{arith}
use Rattle.blob.specs.Reading.{Outcome, done, refused, choose}
use Rattle.blob.specs.Laid.{laid, laid_more, flat, flat_map}
use Rattle.format.specs.Area.{PROVIDERS, EVENTS, TEMPLATES, GUIDS, place, width}
use Rattle.format.specs.Entry.{GUID, KEY, EVENT_TEMPLATE, TEMPLATE_GUID}
use Rattle.format.specs.Table.{EVNT, TTBL}
use Rattle.format.specs.Answer.{too_small}
use Rattle.format.specs.Lists.{Entry}
use Rattle.format.specs.Lookup.{word_of, alike, position, positions}
use Rattle.lists.specs.declared.Run.{Run}
use Rattle.lists.specs.Entries.{entries-length, word_at, rest, rest_more, rest_none}
use Rattle.lists.specs.Found.{entries, few, has, found, lowest, run_of, owned}
use Rattle.lists.specs.Found as lists
use Rattle.lists.specs.Search.{told as single, nothing-found, same_found, position-found, position-single}
use Rattle.lookup.specs.declared.Walk.{Walk}

-- list 9, whole, in the words; and a run of it
abbrev pub Listed : Run → List ℕ → Type 0
Listed list words = (list.start + width TEMPLATES * list.count ≤ length words) × (list.count ≤ 65536)

abbrev pub Part : Run → Run → List ℕ → Type 0
Part list templates words = Listed list words × (templates.start ≡ list.start) × (templates.first + templates.count ≤ list.count)

-- the GUID of a template, by its number in list 9
abbrev pub guid_of : List ℕ → Run → ℕ → List ℕ
guid_of words list n = take GUID (drop (list.start + width TEMPLATES * n + TEMPLATE_GUID) words)

-- the number of the template that an event gives, of some templates; none or one
abbrev pub number_of : List ℕ → Run → List ℕ → Entry → List ℕ
number_of words templates key e =
    choose (alike (take KEY e) key && not (eqb (word_of EVENT_TEMPLATE e) 0)) (lowest words templates (word_of EVENT_TEMPLATE e)) []

-- by the event's place
abbrev pub number_at : List ℕ → Run → List ℕ → ℕ → List ℕ
number_at words templates key at = number_of words templates key (take (width EVENTS) (drop at words))

-- those of a run from one of them on, by its number
abbrev pub from : Run → ℕ → Run
from r n = record { start = r.start; first = n; count = r.first + r.count - n }

-- the numbers of the templates that events give
abbrev pub numbers : List ℕ → Run → List ℕ → Run → List ℕ
numbers words templates key events = flat (number_of words templates key) (entries (width EVENTS) events words)

-- a template that was found, where it is not marked
abbrev pub unmarked : List Bool → Option ℕ → Option ℕ
unmarked marks None = None
unmarked marks (Some n) = choose (get_or marks n false) None (Some n)

-- a mark, with some words at a place that are a GUID that is given; marks of some templates, so; and of all in list 9
abbrev pub mark_of : List ℕ → List ℕ → ℕ → ℕ → List Bool → Bool
mark_of words guid at i marks = choose (alike (take (length guid) (drop at words)) guid) true (get_or marks i false)

unfoldable pub marked_from : List ℕ → List ℕ → ℕ → ℕ → ℕ → List Bool → List Bool
marked_from words guid i zero at marks = marks
marked_from words guid i (suc n) at marks = marked_from words guid (i + 1) n (at + width TEMPLATES) (set marks i (mark_of words guid (at + TEMPLATE_GUID) i marks))

abbrev pub marked : List ℕ → Run → List ℕ → List Bool → List Bool
marked words list guid marks = marked_from words guid 0 list.count list.start marks

-- of some templates, those whose GUID was not marked, nor given by one before
unfoldable pub firsts : List ℕ → Run → List Bool → List ℕ → List ℕ
firsts words list marks [] = []
firsts words list marks (n ∷ ns) = choose (get_or marks n false) (firsts words list marks ns) (n ∷ firsts words list (marked words list (guid_of words list n) marks) ns)

abbrev pub unset : List Bool
unset = replicate 65536 false

-- what the next one tells of the events that are left, and of others behind them, with the marks that are then set
abbrev pub told : List ℕ → Run → Run → List ℕ → List Bool → List ℕ → Option (ℕ × Run) → List ℕ
told words list templates key marks others None = firsts words list marks others
told words list templates key marks others (Some (n, rest)) = n ∷ firsts words list marks (numbers words templates key rest ++ others)

abbrev pub Tells : List ℕ → Run → Run → List ℕ → List Bool → Run → List Bool → Option (ℕ × Run) → Type 0
Tells words list templates key marks events marks' r =
    (others : List ℕ) → firsts words list marks (numbers words templates key events ++ others) ≡ told words list templates key marks' others r

-- the next one is a template, and the events behind it end where all do
abbrev pub behind : Run → Run → Option (ℕ × Run) → Type 0
behind events list None = Unit
behind events list (Some (n, rest)) =
    (n < list.count) × (rest.start ≡ events.start) × (rest.first + rest.count ≡ events.first + events.count)

-- Where the lookup stands: in the words, with a part of list 9.
abbrev pub Stands : List ℕ → Run → Walk → Type 0
Stands words list w = few (width EVENTS) w.events words × Part list w.templates words × few (width PROVIDERS) w.providers words

-- at a provider
abbrev pub came_to : List ℕ → List ℕ → List ℕ → Run → ℕ → Walk
came_to words capacities counts providers p =
    record { events = owned words capacities counts p EVNT; templates = owned words capacities counts p TTBL; providers = lists.behind providers p }

-- by the number that is found; none or one
abbrev pub came : List ℕ → List ℕ → List ℕ → Run → List ℕ → Option Walk
came words capacities counts providers [] = None
came words capacities counts providers (p ∷ ps) = Some (came_to words capacities counts providers p)

abbrev pub next_provider : List ℕ → List ℕ → List ℕ → List ℕ → Run → Option Walk
next_provider words capacities counts guid providers =
    came words capacities counts providers (position (has 0 guid) providers.first (entries (width PROVIDERS) providers words))

-- it stands there, with fewer providers behind it
abbrev pub arrived : List ℕ → Run → Run → Option Walk → Type 0
arrived words list providers None = Unit
arrived words list providers (Some w) = Stands words list w × (w.providers.count < providers.count)

module _ (words capacities counts guid key : List ℕ) where
  -- the numbers of the templates that a provider's events give, in its own templates
  abbrev pub numbers_from : ℕ → List ℕ
  numbers_from p = numbers words (owned words capacities counts p TTBL) key (owned words capacities counts p EVNT)

  -- those of the providers with the GUID, of some; and of all events that are left
  abbrev pub numbers_of_all : Run → List ℕ
  numbers_of_all providers = flat numbers_from (positions (has 0 guid) providers.first (entries (width PROVIDERS) providers words))

  abbrev pub numbers_left : Walk → List ℕ
  numbers_left w = numbers words w.templates key w.events ++ numbers_of_all w.providers

  -- those of them whose GUID is new
  abbrev pub new_of : List Bool → Walk → List ℕ
  new_of marks w = firsts words (run_of capacities counts (place TEMPLATES)) marks (numbers_left w)

  -- of what there is at a provider that was come to
  abbrev pub new_at : List Bool → Option Walk → List ℕ
  new_at marks None = []
  new_at marks (Some w) = new_of marks w

  -- the GUIDs that are given, where none was before, each once
  abbrev pub guids_from : Walk → List Entry
  guids_from w = map (guid_of words (run_of capacities counts (place TEMPLATES))) (new_of unset w)

  -- what a step tells of those that are left, with the marks that are then set
  abbrev pub stepped : List Bool → Option (ℕ × Walk) → List ℕ
  stepped marks None = []
  stepped marks (Some (n, w)) = n ∷ new_of marks w

-- a step comes to a template, and stands behind it
abbrev pub onward : List ℕ → Run → Option (ℕ × Walk) → Type 0
onward words list None = Unit
onward words list (Some (n, w)) = (n < list.count) × Stands words list w

-- GUIDs, where a lent list has room for them; else 9
abbrev pub room_for : List ℕ → List Entry → Outcome (List Entry)
room_for lent gs = choose (leb (length gs) (length lent / GUID)) (done gs) (refused (too_small GUIDS (length lent / GUID)))

-- What an event gives, by what was tested of it: another key, no offset, or a template.
module _ (words : List ℕ) (templates : Run) (key : List ℕ) (at : ℕ) (k : length key ≡ KEY) where
  number-at : number_at words templates key at
      ≡ choose (alike (take (length key) (drop at words)) key && not (eqb (get_or words (at + EVENT_TEMPLATE) 0) 0)) (lowest words templates (get_or words (at + EVENT_TEMPLATE) 0)) []
  number-at = rw (k, take-take KEY (width EVENTS) (drop at words) (omega arith), word_at (width EVENTS) words EVENT_TEMPLATE at (omega arith))

  pub number-some : alike (take (length key) (drop at words)) key ≡ true → (get_or words (at + EVENT_TEMPLATE) 0 ≡ 0 → ⊥)
      → number_at words templates key at ≡ lowest words templates (get_or words (at + EVENT_TEMPLATE) 0)
  number-some e h = number-at ∙ rw (e, ne_eqb _ _ h)

-- an event gives one template at most, of the run
module _ (words : List ℕ) (templates : Run) (key : List ℕ) (e : Entry) where
  pub number-single : number_of words templates key e ≡ single (found (number_of words templates key e))
  number-single = go (alike (take KEY e) key && not (eqb (word_of EVENT_TEMPLATE e) 0))
    where
      go : (t : Bool) → choose t (lowest words templates (word_of EVENT_TEMPLATE e)) [] ≡ single (found (choose t (lowest words templates (word_of EVENT_TEMPLATE e)) []))
      go true = position-single _ templates.first (entries (width TEMPLATES) templates words)
      go false = refl

  pub number-below : (n : ℕ) → found (number_of words templates key e) ≡ Some n → n < templates.first + templates.count
  number-below n h = go (alike (take KEY e) key && not (eqb (word_of EVENT_TEMPLATE e) 0)) h
    where
      go : (t : Bool) → found (choose t (lowest words templates (word_of EVENT_TEMPLATE e)) []) ≡ Some n → n < templates.first + templates.count
      go true h =
          omega (arith, (position-found _ templates.first (entries (width TEMPLATES) templates words) n h).2, entries-length (width TEMPLATES) words templates.count (templates.start + width TEMPLATES * templates.first))
      go false h = absurd (nothing-found n h)

-- Of templates that are marked, those from a number on decide: the next one is marked or is not, or none is left.
module _ (words guid : List ℕ) (n start i : ℕ) (marks : List Bool) where
  abbrev pub marked_rest : List Bool
  marked_rest = marked_from words guid i (n - i) (start + width TEMPLATES * i) marks

  pub marked-none : n ≤ i → marked_rest ≡ marks
  unfolding marked_from
  marked-none h = let m : n - i ≡ 0 = omega arith in rw m

pub marked_more : (words guid : List ℕ) (n start i : ℕ) (marks : List Bool) → i < n → (marks' : List Bool) → marks' ≡ set marks i (mark_of words guid (start + width TEMPLATES * i + TEMPLATE_GUID) i marks)
    → marked_rest words guid n start i marks ≡ marked_rest words guid n start (i + 1) marks'
unfolding marked_from
marked_more words guid n start i marks h marks' e =
    let m : n - i ≡ suc (n - (i + 1)) = omega arith in
    let a : start + width TEMPLATES * i + width TEMPLATES ≡ start + width TEMPLATES * (i + 1) = omega arith in
    ap (λ (l : ℕ). marked_from words guid i l (start + width TEMPLATES * i) marks) m ∙ ap₂ (marked_from words guid (i + 1) (n - (i + 1))) a (sym e)

-- Of events that are left, the next one decides: it gives nothing, or what is marked, or a template whose GUID is new.
module _ (words : List ℕ) (list : Run) (marks : List Bool) where
  skip : (f : Option ℕ) (rest : List ℕ) → unmarked marks f ≡ None → firsts words list marks (single f ++ rest) ≡ firsts words list marks rest
  unfolding firsts
  skip None rest e = refl
  skip (Some m) rest e = go (get_or marks m false) e
    where
      go : (t : Bool) → choose t None (Some m) ≡ None
          → choose t (firsts words list marks rest) (m ∷ firsts words list (marked words list (guid_of words list m) marks) rest) ≡ firsts words list marks rest
      go true e = refl
      go false e = absurd (nothing-found m (sym e))

  give : (f : Option ℕ) (rest : List ℕ) (n : ℕ) → unmarked marks f ≡ Some n
      → (firsts words list marks (single f ++ rest) ≡ n ∷ firsts words list (marked words list (guid_of words list n) marks) rest) × (f ≡ Some n)
  unfolding firsts
  give None rest n e = absurd (nothing-found n e)
  give (Some m) rest n e = go (get_or marks m false) e
    where
      go : (t : Bool) → choose t None (Some m) ≡ Some n
          → (choose t (firsts words list marks rest) (m ∷ firsts words list (marked words list (guid_of words list m) marks) rest) ≡ n ∷ firsts words list (marked words list (guid_of words list n) marks) rest)
          × (Some m ≡ Some n)
      go true e = absurd (nothing-found n e)
      go false e = (ap (λ k. k ∷ firsts words list (marked words list (guid_of words list k) marks) rest) (same_found m n e), e)

module _ (words : List ℕ) (list templates events : Run) (key : List ℕ) (marks : List Bool) (n at : ℕ) (h : n < events.first + events.count) (a : at ≡ events.start + width EVENTS * n) where
  numbers_more : numbers words templates key (from events n) ≡ single (found (number_at words templates key at)) ++ numbers words templates key (from events (n + 1))
  unfolding rest flat
  numbers_more =
      ap (flat (number_of words templates key)) (rest_more (width EVENTS) words (events.first + events.count) events.start n h)
      ∙ ap (λ (ns : List ℕ). ns ++ numbers words templates key (from events (n + 1)))
      (ap (λ p. number_at words templates key p) (sym a) ∙ number-single words templates key (take (width EVENTS) (drop at words)))

  numbers-others : (others : List ℕ) → firsts words list marks (numbers words templates key (from events n) ++ others)
      ≡ firsts words list marks (single (found (number_at words templates key at)) ++ (numbers words templates key (from events (n + 1)) ++ others))
  numbers-others others =
      ap (λ (ns : List ℕ). firsts words list marks (ns ++ others)) numbers_more
      ∙ ap (firsts words list marks) (append_assoc (single (found (number_at words templates key at))) _ others)

  pub next-skip : (others : List ℕ) → unmarked marks (found (number_at words templates key at)) ≡ None
      → firsts words list marks (numbers words templates key (from events n) ++ others) ≡ firsts words list marks (numbers words templates key (from events (n + 1)) ++ others)
  next-skip others e = numbers-others others ∙ skip words list marks (found (number_at words templates key at)) _ e

  pub next-give : (others : List ℕ) (t : ℕ) (marks' : List Bool) → unmarked marks (found (number_at words templates key at)) ≡ Some t → marks' ≡ marked words list (guid_of words list t) marks
      → firsts words list marks (numbers words templates key (from events n) ++ others) ≡ t ∷ firsts words list marks' (numbers words templates key (from events (n + 1)) ++ others)
  next-give others t marks' e m =
      numbers-others others
      ∙ (give words list marks (found (number_at words templates key at)) _ t e).0
      ∙ ap (λ (ms : List Bool). t ∷ firsts words list ms (numbers words templates key (from events (n + 1)) ++ others)) (sym m)

-- by what it is, in list 9 as it is known
module _ (words : List ℕ) (list templates : Run) (key : List ℕ) (marks : List Bool) (events : Run) (marks' : List Bool) (r : Option (ℕ × Run))
    (h : Tells words list templates key marks events marks' r) (l : Run) (e : list ≡ l) (others : List ℕ) where
  tells : firsts words l marks (numbers words templates key events ++ others) ≡ told words l templates key marks' others r
  tells = subst (λ (l : Run). Tells words l templates key marks events marks' r) e h others

  pub tells_over : r ≡ None → firsts words l marks (numbers words templates key events ++ others) ≡ firsts words l marks' others
  tells_over o = tells ∙ ap (told words l templates key marks' others) o

pub next-below : (words : List ℕ) (templates : Run) (key : List ℕ) (marks : List Bool) (at n : ℕ) → unmarked marks (found (number_at words templates key at)) ≡ Some n
    → n < templates.first + templates.count
next-below words templates key marks at n e =
    number-below words templates key (take (width EVENTS) (drop at words)) n (give words templates marks (found (number_at words templates key at)) [] n e).1

pub next-none : (words : List ℕ) (list templates events : Run) (key : List ℕ) (marks : List Bool) (n : ℕ) (others : List ℕ) → events.first + events.count ≤ n
    → firsts words list marks (numbers words templates key (from events n) ++ others) ≡ firsts words list marks others
unfolding rest flat
next-none words list templates events key marks n others h =
    ap (λ (es : List Entry). firsts words list marks (flat (number_of words templates key) es ++ others)) (rest_none (width EVENTS) words (events.first + events.count) events.start n h)

none_left : {A : Type 0} (l : List A) → length l ≤ 0 → l ≡ []
none_left [] h = refl
none_left (x ∷ l) h = absurd (omega arith)

-- Of GUIDs that are stored, those that are left decide.
module _ (G : ℕ → List ℕ) (guids : List ℕ) (to : ℕ) (ns : List ℕ) where
  pub guids_more : (n : ℕ) (ms guids' : List ℕ) (to' : ℕ) → ns ≡ n ∷ ms → guids' ≡ laid guids to (G n) → length (G n) ≡ GUID → to' ≡ to + GUID
      → laid guids to (flat G ns) ≡ laid guids' to' (flat G ms)
  unfolding flat
  guids_more n ms guids' to' e g l t =
      ap (λ (x : List ℕ). laid guids to (flat G x)) e
      ∙ laid_more guids to (G n) (flat G ms)
      ∙ ap₂ (λ (x : List ℕ) (m : ℕ). laid x m (flat G ms)) (sym g) (ap (λ m. to + m) l ∙ sym t)

  pub guids_none : length ns ≤ 0 → laid guids to (flat G ns) ≡ guids
  unfolding flat laid
  guids_none h = let e : ns ≡ [] = none_left ns h in rw e

pub guid-length : (words : List ℕ) (list : Run) (n : ℕ) → Listed list words → n < list.count → length (guid_of words list n) ≡ GUID
guid-length words list n f h = simp (length-take, length-drop) (omega (arith, f))

-- What is given, by the number that was counted: too many for the lent list, or all.
module _ (gs : List Entry) (lent : List ℕ) (n : ℕ) (e : n ≡ min (length gs) (length lent / GUID + 1)) where
  pub give_all : n ≤ length lent / GUID → (room_for lent gs ≡ done gs) × (n ≡ length gs) × (GUID * length gs ≤ length lent)
  give_all h = let l : length gs ≤ length lent / GUID = omega arith in (rw (le-leb _ _ l), omega arith, omega arith)

-- the words of GUIDs that are stored one by one
pub stored_guids : (words : List ℕ) (list : Run) (ns : List ℕ) → flat (guid_of words list) ns ≡ flat (λ g. g) (map (guid_of words list) ns)
stored_guids words list ns = sym (flat_map (λ (g : Entry). g) (guid_of words list) ns)
