-- The index of an accepted reading: over the words that the reading leaves and the counts that it tells, it holds exactly the events with
-- a found template, and writing it gives neither 8 nor 10.
use Rattle.std.specs.Prelude.{ℕ, ◌<◌, ◌≡◌, true, length}
use Rattle.std.proofs.Math.Path.{refl, ap}
use Rattle.std.proofs.Common.{◌∙◌, arith}
use mathlib.Core.List.{List, map, map-map}
use Rattle.blob.specs.Reading.{Outcome, done, refused}
use Rattle.blob.specs.Places.{Each}
use Rattle.format.specs.Area.{PROVIDERS, EVENTS, rows, place}
use Rattle.format.specs.Provider.{Provider}
use Rattle.format.specs.Crim.{Crim, crim}
use Rattle.format.specs.Lists.{provider_words, lists}
use Rattle.format.specs.Answer.{reading as block_reading, counted, answer, held as words_held, Allowed}
use Rattle.format.specs.Lookup.{entries_of, word_of, every}
use Rattle.format.specs.Join.{joined}
use Rattle.format.proofs.Theorems.Codes.{refused-code}
use Rattle.format.proofs.Theorems.Taken.{read, taken}
use Rattle.format.proofs.Theorems.Joins.{lent_still, counts-room, tables-join, tables-owned}
use Rattle.format.proofs.Theorems.Owned.{events-owned, events-found}
use Rattle.format.specs.declared.Answer.{Answer}
use Rattle.index.specs.Index.{Index, written, index, with_room, entry_of, UNKNOWN2_COUNT, fields_fit, index_of, writing}
use Rattle.indexer.proofs.Theorems.Fields.{block-fits}
use Rattle.indexer.proofs.Theorems.Lists.{lists_back}

-- what the index of some providers holds: each one's unknown2 count, and the events of the join
abbrev pub joined_index : List Provider → Index
joined_index ps = record { counts = map (λ p. length p.unknown2) ps; entries = map entry_of (joined 0 ps) }

-- An accepted reading, with a capacity for each list.
module _ (bytes words capacities : List ℕ) (c : Crim) (e : block_reading bytes words capacities ≡ done c) (n : length capacities ≡ length rows) where
  pub index-joins : index_of (words_held words capacities (done c)) capacities (counted (lists c.providers)) ≡ joined_index c.providers
  unfolding lists
  index-joins =
      rw (events-found bytes words capacities c e n, taken bytes words capacities c e n (place PROVIDERS) (omega arith), map-map (word_of UNKNOWN2_COUNT) provider_words c.providers)

  fields_fit_lem : Each (λ b. b < 256) bytes → every (λ e. fields_fit e) (entries_of (words_held words capacities (done c)) capacities (counted (lists c.providers)) EVENTS) ≡ true
  unfolding lists
  fields_fit_lem b = rw (taken bytes words capacities c e n (place EVENTS) (omega arith)) (block-fits bytes c (read bytes words capacities c e).found b)

  pub writing-joins : Each (λ b. b < 256) bytes → (lent : List ℕ)
      → writing (words_held words capacities (done c)) capacities (counted (lists c.providers)) lent ≡ with_room lent (written (joined_index c.providers))
  unfolding writing
  writing-joins b lent =
      rw (
        lent_still bytes words capacities c e n,
        counts-room bytes words capacities c e n,
        tables-join bytes words capacities c e n,
        tables-owned bytes words capacities c e n,
        events-owned bytes words capacities c e n,
        fields_fit_lem b,
      )
      (ap (λ i. with_room lent (written i)) index-joins)

-- The same in the terms of what `read` promises: where its answer is 0, the bytes are a block, and writing over the words that it leaves
-- and the numbers that it tells gives the index of what the block holds, which reads back.
module _ (bytes words capacities : List ℕ) (a : Answer) (after : List ℕ) where
  abbrev Indexed : Type 0
  Indexed =
      (c : Crim)
      × (crim bytes ≡ done c)
      × (index_of after capacities a.counts ≡ joined_index c.providers)
      × ((lent : List ℕ) → writing after capacities a.counts lent ≡ with_room lent (written (joined_index c.providers)))
      × (Each (λ w. w < 4294967296) after → (lent given : List ℕ) → writing after capacities a.counts lent ≡ done given → index given ≡ done (joined_index c.providers))

  pub accepted-index : Allowed bytes words capacities a after → a.code ≡ 0 → length capacities ≡ length rows → Each (λ b. b < 256) bytes → Indexed
  unfolding answer
  accepted-index h z n b = go (block_reading bytes words capacities) refl
    where
      go : (o : Outcome Crim) → block_reading bytes words capacities ≡ o → Indexed
      go (done c) e =
          let i : index_of after capacities a.counts ≡ joined_index c.providers = rw (h.kept, h.answered, e) (index-joins bytes words capacities c e n) in (
            c,
            (read bytes words capacities c e).found,
            i,
            λ lent. rw (h.kept, h.answered, e) (writing-joins bytes words capacities c e n b lent),
            λ w lent given g. lists_back after capacities a.counts w lent given g ∙ ap done i,
          )
      go (refused r) e = absurd (let q : a.code ≡ r.code = rw (h.answered, e) refl in omega (arith, refused-code bytes words capacities r e))
