-- The writing of an index, by what was tested.
use Prim.{tt}
use Rattle.std.specs.Prelude.{ℕ, ◌≡◌, refl, Bool, true, false, ◌&&◌, List, map, take, Result, Ok, Err}
use Rattle.std.proofs.Common.{ap, sym, ◌∙◌, arith}
use Rattle.blob.specs.Reading.{refused}
use Rattle.blob.specs.declared.Refusal.{Refusal}
use Rattle.format.specs.Area.{PROVIDERS, TABLES, EVENTS, TEMPLATES, rows, place, width, of}
use Rattle.format.specs.Answer.{own, areas, lent_enough}
use Rattle.format.specs.Lookup.{entries_of, counts_fit, tables_fit}
use Rattle.format.specs.Owner.{events_owned}
use Rattle.lists.specs.Entries.{entries-length}
use Rattle.lists.specs.Fit.{fits_together, refused_as, refused-further, inside}
use Rattle.lists.specs.Found.{tables_hold, fit_together, Fit}
use Rattle.lists.specs.Owners.{Owns}
use Rattle.index.specs.Index.{entry_of, written, with_room, index_of, together, writing, given, held, AllowedWrite}
use Rattle.indexer.specs.Listed.{unknown2s, all_fit, resolved, index_by}
use Rattle.indexer.specs.Resolved.{found-listed}

-- the index by the owners that are left is the index of the lists
module _ (words capacities counts : List ℕ) (f : Fit words capacities counts) (t : tables_fit counts (entries_of words capacities counts TABLES) ≡ true) where
  pub index-found : (owners : List ℕ) (r : Bool) → r ≡ true → Owns (entries_of words capacities counts TABLES) (of EVENTS counts) owners r
      → index_by words capacities counts (resolved words capacities counts owners) ≡ index_of words capacities counts
  index-found owners r e h =
      let n = entries-length (width EVENTS) words (of EVENTS counts) (areas rows (take (place EVENTS) capacities)) in
      ap (λ fs. record { counts = unknown2s (entries_of words capacities counts PROVIDERS); entries = map entry_of fs })
      (found-listed counts (entries_of words capacities counts TABLES) (entries_of words capacities counts TEMPLATES) t (inside words capacities counts f (place PROVIDERS)).1 owners 0 (entries_of words capacities counts EVENTS)
      (omega (arith, n, (h e).0, (inside words capacities counts f (place EVENTS)).1)) (λ j a b. (h e).1 j (omega (arith, n, b))))

module _ (words capacities counts lent : List ℕ) where
  -- a refusal keeps the lent bytes
  refusal : (q r : Refusal) → q ≡ r → writing words capacities counts lent ≡ refused r → AllowedWrite words capacities counts lent (Err q) lent
  refusal q r e x = record { answered = ap Err e ∙ ap given (sym x); kept = ap (held lent) (sym x) }

  pub write_refused : (r : Refusal) → fit_together words capacities counts ≡ Err r → AllowedWrite words capacities counts lent (Err r) lent
  unfolding writing
  write_refused r e =
      refusal r r refl
      (refused_as refused (with_room lent (written (index_of words capacities counts))) (lent_enough capacities words) (together words capacities counts) r
      (refused-further (lent_enough capacities words) (counts_fit counts capacities && tables_hold counts (entries_of words capacities counts TEMPLATES) (entries_of words capacities counts TABLES)) _ r e))

  -- over lists that fit together: an event with no owner or with two, a field past its width, or neither
  module _ (k : fit_together words capacities counts ≡ Ok tt) where
    pub write_unowned : (q : Refusal) → q ≡ own 10 → events_owned words capacities counts ≡ false → AllowedWrite words capacities counts lent (Err q) lent
    unfolding writing
    write_unowned q h e = let f = fits_together words capacities counts k in refusal q (own 10) h (rw (f.0.0.0, f.0.0.1, f.0.1, f.1, e))

    pub write_past : (q : Refusal) → q ≡ own 10 → events_owned words capacities counts ≡ true → all_fit (entries_of words capacities counts EVENTS) ≡ false
        → AllowedWrite words capacities counts lent (Err q) lent
    unfolding writing
    write_past q h e g = let f = fits_together words capacities counts k in refusal q (own 10) h (rw (f.0.0.0, f.0.0.1, f.0.1, f.1, e, g))

    -- by the owners, and what is left of them
    pub write_given : (owners left : List ℕ) (r : Bool) → r ≡ true → r ≡ events_owned words capacities counts → Owns (entries_of words capacities counts TABLES) (of EVENTS counts) owners r
        → all_fit (entries_of words capacities counts EVENTS) ≡ true → left ≡ resolved words capacities counts owners
        → (a : Result ℕ Refusal) (after : List ℕ) → a ≡ given (with_room lent (written (index_by words capacities counts left)))
        → after ≡ held lent (with_room lent (written (index_by words capacities counts left)))
        → AllowedWrite words capacities counts lent a after
    unfolding writing
    write_given owners left r e v h g m a after ea eb =
        let f = fits_together words capacities counts k in
        let x : with_room lent (written (index_by words capacities counts left)) ≡ writing words capacities counts lent =
        ap (λ os. with_room lent (written (index_by words capacities counts os))) m ∙ ap (λ i. with_room lent (written i)) (index-found words capacities counts f.0.0 f.0.1 owners r e h)
        ∙ sym (rw (f.0.0.0, f.0.0.1, f.0.1, f.1, sym v ∙ e, g)) in
        record { answered = ea ∙ ap given x; kept = eb ∙ ap (held lent) x }
