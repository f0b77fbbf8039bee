-- Of what is measured or stored, what is left decides.
use Rattle.std.specs.Prelude.{ℕ, suc, ◌+◌, ◌*◌, ◌≤◌, ◌<◌, ◌≡◌, refl, Bool, true, false, length, get_or, drop, eqb}
use Rattle.std.proofs.Math.Path.{ap, sym}
use Rattle.std.proofs.Common.{◌∙◌, arith, length-append, length-take, drop_of_length-le, eq-eqb, ne_eqb}
use mathlib.Core.List.{List, [], ◌∷◌, ◌++◌, append-nil}
use Rattle.std.proofs.lemmas.List.{length-map}
use Rattle.blob.specs.Reading.{choose}
use Rattle.blob.specs.Laid.{laid, laid_more, flat, flat_append}
use Rattle.number.specs.Number.{form}
use Rattle.number.proofs.Forms.{form-short}
use Rattle.counts.specs.Short.{drop_more}
use Rattle.format.specs.Area.{PROVIDERS, EVENTS, width}
use Rattle.format.specs.Lists.{Entry}
use Rattle.format.specs.Lookup.{entries_from, word_of}
use Rattle.lists.specs.Entries.{entries-length, rest, rest_all, rest_more, rest_none, word_at}
use Rattle.lists.specs.Owners.{NOBODY}
use Rattle.index.specs.Index.{UNKNOWN2_COUNT, entry_of}
use Rattle.indexer.specs.Listed.{ENTRY, unknown2s, count_bytes, event_at, mine, listed_from, listed_at, one_of, formed}

-- Bytes that are some and others behind these: so many, and stored so.
pub record Split (bs xs ys : List ℕ) : Type 0 where
  pub equal : bs ≡ xs ++ ys

module _ {bs xs ys : List ℕ} (s : Split bs xs ys) where
  pub bytes-more : length bs ≡ length xs + length ys
  bytes-more = ap length s.equal ∙ length-append xs ys

  pub bytes-laid : (lent lent' : List ℕ) (to to' : ℕ) → lent' ≡ laid lent to xs → to' ≡ to + length xs → laid lent' to' ys ≡ laid lent to bs
  bytes-laid lent lent' to to' e g = rw (e, g, s.equal) (sym (laid_more lent to xs ys))

pub bytes-none : (bs lent : List ℕ) (to : ℕ) → bs ≡ [] → laid lent to bs ≡ lent
unfolding laid
bytes-none bs lent to e = ap (laid lent to) e

-- Of bytes that are stored from a place on, those that are left, stored at the next place, make the whole.
pub record Storing (all left lent lent' : List ℕ) (from to : ℕ) : Type 0 where
  pub reached : to + length left ≡ from + length all
  pub kept : length lent' ≡ length lent
  pub whole : laid lent' to left ≡ laid lent from all

pub storing-all : {all left : List ℕ} (lent : List ℕ) (from : ℕ) → left ≡ all → Storing all left lent lent from from
storing-all lent from e = rw e (record { reached = refl; kept = refl; whole = refl })

module _ {all left lent lent' : List ℕ} {from to : ℕ} (s : Storing all left lent lent' from to) where
  module _ {xs ys : List ℕ} (m : Split left xs ys) where
    pub storing-room : from + length all ≤ length lent → to + length xs ≤ length lent'
    storing-room h = omega (arith, bytes-more m, s.reached, s.kept)

    pub storing-more : {lent'' : List ℕ} {to' : ℕ} → lent'' ≡ laid lent' to xs → to' ≡ to + length xs → length lent'' ≡ length lent' → Storing all ys lent lent'' from to'
    storing-more e g k =
        record { reached = omega (arith, bytes-more m, s.reached); kept = k ∙ s.kept; whole = bytes-laid m _ _ _ _ e g ∙ s.whole }

  pub storing-none : left ≡ [] → (to ≡ from + length all) × (lent' ≡ laid lent from all)
  storing-none e = (omega (arith, ap length e, s.reached), sym (bytes-none left lent' to e) ∙ s.whole)

-- no form is longer than ten bytes
pub forms_short : (ns : List ℕ) → length (flat form ns) ≤ 10 * length ns
unfolding flat
forms_short [] = omega arith
forms_short (n ∷ ns) = simp length-append (omega (arith, form-short 10 n, forms_short ns))

-- numbers from one on
module _ (ns : List ℕ) (i : ℕ) where
  pub numbers-next : i < length ns → Split (flat form (drop i ns)) (form (get_or ns i 0)) (flat form (drop (i + 1) ns))
  unfolding flat
  numbers-next h = record { equal = ap (flat form) (drop_more 0 ns i h) }

  pub numbers-none : length ns ≤ i → flat form (drop i ns) ≡ []
  unfolding flat
  numbers-none h = rw (drop_of_length-le ns h)

-- the bytes of the unknown2 counts of so many providers, from one on, by its number
module _ (words : List ℕ) (n at : ℕ) where
  abbrev pub counts_left : ℕ → List ℕ
  counts_left i = flat form (unknown2s (rest (width PROVIDERS) words n at i))

  pub counts-all : counts_left 0 ≡ count_bytes words n at
  counts-all = ap (λ (es : List Entry). flat form (unknown2s es)) (rest_all (width PROVIDERS) words n at)

  pub counts-next : (i : ℕ) → i < n → Split (counts_left i) (form (get_or words (at + width PROVIDERS * i + UNKNOWN2_COUNT) 0)) (counts_left (i + 1))
  unfolding flat
  counts-next i h =
      record {
        equal = ap (λ (es : List Entry). flat form (unknown2s es)) (rest_more (width PROVIDERS) words n at i h)
            ∙ ap (λ m. form m ++ counts_left (i + 1)) (word_at (width PROVIDERS) words UNKNOWN2_COUNT (at + width PROVIDERS * i) (omega arith));
      }

  pub counts-none : (i : ℕ) → n ≤ i → counts_left i ≡ []
  unfolding flat
  counts-none i h = ap (λ (es : List Entry). flat form (unknown2s es)) (rest_none (width PROVIDERS) words n at i h)

  pub counts-short : length (count_bytes words n at) ≤ 10 * n
  counts-short =
      omega (arith, forms_short (unknown2s (entries_from (width PROVIDERS) n at words)), length-map (entries_from (width PROVIDERS) n at words) (word_of UNKNOWN2_COUNT), entries-length (width PROVIDERS) words n at)

-- the bytes of two rows of entries
formed-append : (fs gs : List Entry) → formed (fs ++ gs) ≡ formed fs ++ formed gs
formed-append fs gs = ap (flat form) (flat_append entry_of fs gs) ∙ flat_append form (flat entry_of fs) (flat entry_of gs)

-- an event's own: none where it is nobody's, else its entry's
module _ (owner : ℕ) (e : Entry) where
  pub mine-none : owner ≡ NOBODY → formed (mine owner e) ≡ []
  unfolding flat
  mine-none h = rw (eq-eqb _ _ h)

  pub mine-one : (owner ≡ NOBODY → ⊥) → (ns : List ℕ) → ns ≡ entry_of (owner ∷ e) → flat form ns ≡ formed (mine owner e)
  unfolding flat
  mine-one h ns g = rw (ne_eqb _ _ h, g) (ap (flat form) (sym (append-nil (entry_of (owner ∷ e)))))

  pub mine-count : length (mine owner e) ≡ one_of owner
  mine-count = go (eqb owner NOBODY)
    where
      go : (t : Bool) → length (choose t [] ((owner ∷ e) ∷ [])) ≡ choose t 0 1
      go true = refl
      go false = refl

-- an entry has nine numbers at most
entry-numbers : (f : Entry) → length (entry_of f) ≤ ENTRY
entry-numbers f = simp (length-append, length-take) (omega arith)

entries-numbers : (fs : List Entry) → length (flat entry_of fs) ≤ ENTRY * length fs
unfolding flat
entries-numbers [] = omega arith
entries-numbers (f ∷ fs) = omega (arith, length-append (entry_of f) (flat entry_of fs), entry-numbers f, entries-numbers fs)

-- no more than ten bytes each
pub formed-short : (fs : List Entry) → length (formed fs) ≤ 10 * (ENTRY * length fs)
formed-short fs = omega (arith, forms_short (flat entry_of fs), entries-numbers fs)

-- no more are listed than there are
listed-most : (owners : List ℕ) (i : ℕ) (es : List Entry) → length (listed_from owners i es) ≤ length es
unfolding listed_from
listed-most owners i [] = omega arith
listed-most owners i (e ∷ es) = go (eqb (get_or owners i 0) NOBODY) (listed-most owners (i + 1) es)
  where
    go : (t : Bool) → length (listed_from owners (i + 1) es) ≤ length es → length (choose t [] ((get_or owners i 0 ∷ e) ∷ []) ++ listed_from owners (i + 1) es) ≤ suc (length es)
    go true h = omega arith
    go false h = omega arith

-- of so many events, those that are listed from one on, by its number
module _ (owners words : List ℕ) (n at : ℕ) where
  abbrev pub listed_left : ℕ → List Entry
  listed_left i = listed_from owners i (rest (width EVENTS) words n at i)

  pub listed_all : listed_left 0 ≡ listed_at owners words 0 n at
  listed_all = ap (listed_from owners 0) (rest_all (width EVENTS) words n at)

  module _ (i : ℕ) where
    abbrev own : List Entry
    own = mine (get_or owners i 0) (event_at words (at + width EVENTS * i))

    pub listed_more : i < n → listed_left i ≡ own ++ listed_left (i + 1)
    unfolding listed_from
    listed_more h = ap (listed_from owners i) (rest_more (width EVENTS) words n at i h)

    pub listed-none : n ≤ i → listed_left i ≡ []
    unfolding listed_from
    listed-none h = ap (listed_from owners i) (rest_none (width EVENTS) words n at i h)

    pub listed_next : i < n → Split (formed (listed_left i)) (formed own) (formed (listed_left (i + 1)))
    listed_next h = record { equal = ap formed (listed_more h) ∙ formed-append own (listed_left (i + 1)) }

    pub listed-count : i < n → length (listed_left i) ≡ one_of (get_or owners i 0) + length (listed_left (i + 1))
    listed-count h =
        ap length (listed_more h) ∙ length-append own (listed_left (i + 1)) ∙ ap (λ m. m + length (listed_left (i + 1))) (mine-count (get_or owners i 0) (event_at words (at + width EVENTS * i)))

    pub formed-none : n ≤ i → formed (listed_left i) ≡ []
    unfolding flat
    formed-none h = ap formed (listed-none h)

  pub listed-short : length (listed_at owners words 0 n at) ≤ n
  listed-short = omega (arith, listed-most owners 0 (entries_from (width EVENTS) n at words), entries-length (width EVENTS) words n at)
