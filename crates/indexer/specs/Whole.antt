-- The whole index: its head, the unknown2 counts, the number of entries, and the entries.
use Rattle.std.specs.Prelude.{ℕ, ◌+◌, ◌*◌, ◌≤◌, ◌≡◌, List, [], ◌∷◌, ◌++◌, length, get_or, take}
use Rattle.std.proofs.Common.{ap, ◌∙◌, arith}
use Rattle.std.proofs.lemmas.List.{length-map}
use Rattle.blob.specs.Laid.{laid, flat, flat_append, flat_map}
use Rattle.number.specs.Number.{form}
use Rattle.format.specs.Area.{PROVIDERS, EVENTS, rows, place, of}
use Rattle.format.specs.Answer.{areas}
use Rattle.format.specs.Lists.{Entry}
use Rattle.format.specs.Lookup.{entries_of, word_of}
use Rattle.counts.specs.Short.{widths}
use Rattle.lists.specs.Entries.{entries-length}
use Rattle.lists.specs.Fit.{inside}
use Rattle.lists.specs.Found.{Fit}
use Rattle.index.specs.Index.{EDITION, UNKNOWN2_COUNT, numbers, written, entry_of}
use Rattle.indexer.specs.Listed.{ENTRY, stand, unknown2s, count_bytes, listed_at, formed, listed, index_by}
use Rattle.indexer.specs.Left.{Split, bytes-more, bytes-laid, forms_short, counts-short, formed-short, listed-short}

-- bytes that are these four, one behind the other: so many, and stored so
pub record Parts (bs head counts number entries : List ℕ) : Type 0 where
  pub body : List ℕ
  pub tail : List ℕ
  pub first : Split bs head body
  pub second : Split body counts tail
  pub third : Split tail number entries

module _ {bs head counts number entries : List ℕ} (p : Parts bs head counts number entries) where
  pub parts-size : length bs ≡ length head + length counts + length number + length entries
  parts-size = omega (arith, bytes-more p.first, bytes-more p.second, bytes-more p.third)

  pub parts-laid : (a b c d e : List ℕ) (j k l : ℕ) → b ≡ laid a 0 head → j ≡ 0 + length head → c ≡ laid b j counts → k ≡ j + length counts → d ≡ laid c k number → l ≡ k + length number
      → e ≡ laid d l entries → e ≡ laid a 0 bs
  parts-laid a b c d e j k l eb ej ec ek ed el ee = ee ∙ bytes-laid p.third c d k l ed el ∙ bytes-laid p.second b c j k ec ek ∙ bytes-laid p.first a b 0 j eb ej

module _ (words capacities counts owners : List ℕ) where
  abbrev events : List Entry
  events = listed words capacities counts owners

  abbrev providers : List Entry
  providers = entries_of words capacities counts PROVIDERS

  abbrev tail : List ℕ
  tail = length events ∷ flat entry_of events

  abbrev pub head : List ℕ
  head = EDITION ∷ of PROVIDERS counts ∷ []

  all-numbers : numbers (index_by words capacities counts owners) ≡ head ++ (unknown2s providers ++ tail)
  all-numbers =
      rw (length-map providers (word_of UNKNOWN2_COUNT), entries-length _ words (of PROVIDERS counts) _, length-map events entry_of, flat_map (λ (e : Entry). e) entry_of events)

  all_bytes : Parts (written (index_by words capacities counts owners)) (flat form head) (flat form (unknown2s providers)) (flat form (length events ∷ [])) (formed events)
  all_bytes =
      record {
        body = flat form (unknown2s providers ++ tail);
        tail = flat form tail;
        first = record { equal = ap (flat form) all-numbers ∙ flat_append form head (unknown2s providers ++ tail) };
        second = record { equal = flat_append form (unknown2s providers) tail };
        third = record { equal = flat_append form (length events ∷ []) (flat entry_of events) };
      }

  -- by the number and the places that the code has
  module _ (m p e : ℕ) (em : m ≡ length events) (ep : p ≡ areas rows (take (place PROVIDERS) capacities)) (ee : e ≡ areas rows (take (place EVENTS) capacities)) where
    pub parts : Parts (written (index_by words capacities counts owners)) (flat form head) (count_bytes words (of PROVIDERS counts) p) (flat form (m ∷ [])) (formed (listed_at owners words 0 (of EVENTS counts) e))
    parts = rw (em, ep, ee) all_bytes

    -- so many bytes, and not too many to be counted
    pub whole-size : Fit words capacities counts
        → (length (written (index_by words capacities counts owners))
        ≡ length (flat form head) + length (count_bytes words (of PROVIDERS counts) p) + length (flat form (m ∷ [])) + length (formed (listed_at owners words 0 (of EVENTS counts) e)))
        × (length (written (index_by words capacities counts owners)) ≤ 10 * (3 + 65536 + ENTRY * 65536))
    whole-size f =
        let s = parts-size parts in (
          s,
          omega (
            arith,
            s,
            forms_short head,
            counts-short words (of PROVIDERS counts) p,
            forms_short (m ∷ []),
            formed-short (listed_at owners words 0 (of EVENTS counts) e),
            listed-short owners words (of EVENTS counts) e,
            (inside words capacities counts f (place PROVIDERS)).1,
            (inside words capacities counts f (place EVENTS)).1,
          ),
        )

-- a whole list stands in the words, from where its area starts
pub list-stands : (words capacities counts : List ℕ) → Fit words capacities counts → (row start : ℕ) → start ≡ areas rows (take row capacities) → stand (get_or widths row 0) (get_or counts row 0) start words
list-stands words capacities counts f row start e = rw e (inside words capacities counts f row)
