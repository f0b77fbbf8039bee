-- The event at a place, word by word: whether its fields fit, its entry's numbers, and whether it finds a template.
use Rattle.std.specs.Prelude.{is_some, ℕ, zero, suc, ◌+◌, ◌*◌, ◌≤◌, ◌<◌, ◌≡◌, Bool, ◌||◌, length, get_or, take, drop, eqb}
use Rattle.std.proofs.Math.Path.{refl, ap}
use Rattle.std.proofs.Common.{◌∙◌, add-zero, arith, length-take, length-drop, drop-cons, ne_eqb}
use Rattle.std.proofs.Math.Bool.{true, false}
use mathlib.Core.List.{List, [], ◌∷◌, ◌++◌}
use Rattle.blob.specs.Reading.{choose}
use Rattle.format.specs.Area.{EVENTS, width}
use Rattle.format.specs.Entry.{EVENT_TEMPLATE, TEMPLATE_OFFSET}
use Rattle.format.specs.Lists.{Entry}
use Rattle.format.specs.Join.{some}
use Rattle.format.specs.Lookup.{word_of, position}
use Rattle.lists.specs.Entries.{word_at}
use Rattle.lists.specs.Found.{found}
use Rattle.index.specs.Index.{fit, fields_fit}
use Rattle.indexer.specs.Listed.{event_at, finds_in, entry_at}

-- an entry's words, one by one
abbrev spelled : ℕ → ℕ → List ℕ → List ℕ
spelled zero i l = []
spelled (suc n) i l = get_or l i 0 ∷ spelled n (suc i) l

spell : (n i : ℕ) (l : List ℕ) → i + n ≤ length l → drop i l ≡ spelled n i l ++ drop (i + n) l
spell zero i l h = simp add-zero
spell (suc n) i l h =
    let k : suc i + n ≡ i + suc n = omega arith in
    drop-cons l i 0 (omega arith) ∙ ap (λ (r : List ℕ). get_or l i 0 ∷ r) (spell n (suc i) l (omega arith) ∙ ap (λ j. spelled n (suc i) l ++ drop j l) k)

-- the event at a place, word by word
module _ (words : List ℕ) (at : ℕ) (h : at + width EVENTS ≤ length words) where
  abbrev event : Entry
  event = event_at words at

  event-length : length event ≡ width EVENTS
  event-length = simp (length-take, length-drop) (omega arith)

  event-word : (i : ℕ) → i < width EVENTS → word_of i event ≡ get_or words (at + i) 0
  event-word i l = word_at (width EVENTS) words i at l

  first_words : event ≡ get_or words at 0 ∷ get_or words (at + 1) 0 ∷ get_or words (at + 2) 0 ∷ get_or words (at + 3) 0 ∷ get_or words (at + 4) 0 ∷ get_or words (at + 5) 0 ∷ drop 6 event
  first_words =
      let w : word_of 0 event ≡ get_or words at 0 = event-word 0 (omega arith) ∙ simp add-zero in
      spell 6 0 event (omega (arith, event-length))
      ∙ rw (w, event-word 1 (omega arith), event-word 2 (omega arith), event-word 3 (omega arith), event-word 4 (omega arith), event-word 5 (omega arith))

  pub fields_fit_lem : fields_fit event
      ≡ fields_fit (get_or words at 0 ∷ get_or words (at + 1) 0 ∷ get_or words (at + 2) 0 ∷ get_or words (at + 3) 0 ∷ get_or words (at + 4) 0 ∷ get_or words (at + 5) 0 ∷ [])
  unfolding fit
  fields_fit_lem = ap fields_fit first_words

  pub entry-words : (provider : ℕ) → entry_at words at provider
      ≡ provider ∷ get_or words at 0 ∷ get_or words (at + 1) 0 ∷ get_or words (at + 2) 0 ∷ get_or words (at + 3) 0 ∷ get_or words (at + 4) 0 ∷ get_or words (at + 5) 0
      ∷ (get_or words (at + 6) 0 + 4294967296 * get_or words (at + 7) 0) ∷ get_or words (at + EVENT_TEMPLATE) 0 ∷ []
  entry-words provider =
      ap (λ (l : List ℕ). provider ∷ (take 6 l ++ ((word_of 6 event + 4294967296 * word_of 7 event) ∷ word_of EVENT_TEMPLATE event ∷ []))) first_words
      ∙ rw (event-word 6 (omega arith), event-word 7 (omega arith), event-word EVENT_TEMPLATE (omega arith))

  -- with a template offset it finds one of some templates by that
  pub finds-some : (ts : List Entry) → (get_or words (at + EVENT_TEMPLATE) 0 ≡ 0 → ⊥) → finds_in ts event ≡ some (λ t. eqb (word_of TEMPLATE_OFFSET t) (get_or words (at + EVENT_TEMPLATE) 0)) ts
  finds-some ts e = rw (event-word EVENT_TEMPLATE (omega arith), ne_eqb _ _ e)

-- one is found where a test picks one
pub some-found : (p : Entry → Bool) (k : ℕ) (es : List Entry) → is_some (found (position p k es)) ≡ some p es
unfolding some position
some-found p k [] = refl
some-found p k (x ∷ es) = go (p x) (some-found p (suc k) es)
  where
    go : (t : Bool) → is_some (found (position p (suc k) es)) ≡ some p es → is_some (found (choose t (k ∷ []) (position p (suc k) es))) ≡ (t || some p es)
    go true ih = refl
    go false ih = ih
