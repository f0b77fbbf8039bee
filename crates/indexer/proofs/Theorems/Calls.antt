-- Both calls together: what `write` leaves in the lent bytes, `read` gives as the words of the lists' index, where so many words are lent.
use Prim.Native.Nat.{ℕ, ◌≤◌, ◌<◌}
use Rattle.std.specs.Prelude.{◌≡◌, length, take, leb, Result, Ok, Err}
use Rattle.std.proofs.Math.Path.{refl}
use Rattle.std.proofs.Common.{ap, ◌∙◌, arith, leb-true, le-leb}
use mathlib.Core.List.{List}
use Rattle.blob.specs.Reading.{Outcome, done, refused, then}
use Rattle.blob.proofs.Laws.{same, choose-done}
use Rattle.blob.specs.Laid.{laid}
use Rattle.blob.specs.declared.Refusal.{Refusal}
use Rattle.blob.specs.Places.{Each}
use Rattle.format.specs.Answer.{lent_enough}
use Rattle.format.proofs.Theorems.Taken.{laid-here}
use Rattle.index.specs.Index.{words as words_of, written, reading, index_of, together, writing, given, held, AllowedRead, AllowedWrite}
use Rattle.indexer.proofs.Theorems.Lists.{lists_back}

-- what is written fits the lent bytes
written-fits : (words capacities counts lent bytes : List ℕ) → writing words capacities counts lent ≡ done bytes → length bytes ≤ length lent
unfolding writing
written-fits words capacities counts lent bytes e =
    let a = choose-done (lent_enough capacities words) _ _ bytes e in
    let b = choose-done (together words capacities counts) _ _ bytes a.1 in
    let w = written (index_of words capacities counts) in
    let c = choose-done (leb (length w) (length lent)) _ _ bytes b.1 in
    rw (← same w bytes c.1) (leb-true _ _ c.0)

module _ (words capacities counts : List ℕ) (h : Each (λ w. w < 4294967296) words) (lent : List ℕ) (n : ℕ) (after : List ℕ) where
  pub write_then_read : AllowedWrite words capacities counts lent (Ok n) after → (room : List ℕ) (a : Result ℕ Refusal) (left : List ℕ) → AllowedRead (take n after) room a left
      → length (words_of (index_of words capacities counts)) ≤ length room
      → (a ≡ Ok (length (words_of (index_of words capacities counts)))) × (left ≡ laid room 0 (words_of (index_of words capacities counts)))
  unfolding reading then
  write_then_read w room a left r f = go (writing words capacities counts lent) refl
    where
      ix : List ℕ
      ix = words_of (index_of words capacities counts)

      go : (o : Outcome (List ℕ)) → writing words capacities counts lent ≡ o → (a ≡ Ok (length ix)) × (left ≡ laid room 0 ix)
      go (refused q) e = absurd (let g : Ok n ≡ Err q = w.answered ∙ ap given e in let z : ◌≡◌ {A = ℕ} 0 1 = cc in omega arith)
      go (done bytes) e =
          let g : Ok n ≡ Ok (length bytes) = w.answered ∙ ap given e in
          let m : n ≡ length bytes = cc in
          let k : after ≡ laid lent 0 bytes = w.kept ∙ ap (held lent) e in
          let b : take n after ≡ bytes = rw (m, k) (laid-here lent 0 bytes (let l = written-fits words capacities counts lent bytes e in omega (arith, l))) in
          let i = lists_back words capacities counts h lent bytes e in
          let d : reading (take n after) room ≡ done ix = rw (b, i, le-leb (length ix) (length room) f) in
          (r.answered ∙ ap given d, r.kept ∙ ap (held room) d)
