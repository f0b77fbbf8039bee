-- "What was written reads back the same" (request 05).
use Rattle.std.specs.Prelude.{ℕ, ◌≤◌, ◌≡◌, refl, List, ◌∷◌, ◌++◌, length}
use Rattle.std.proofs.Common.{arith, eq-eqb}
use Rattle.blob.specs.Reading.{done, then}
use Rattle.blob.specs.Laid.{flat, flat_append}
use Rattle.blob.specs.Places.{Each}
use Rattle.format.proofs.Theorems.Known.{All}
use Rattle.number.specs.Number.{WORD, form}
use Rattle.index.specs.Index.{EDITION, ENTRY, Index, written, index}
use Rattle.index.proofs.Theorems.Rows.{Within, Lies, lies_all, lies_split, number-back, rows_back, singles-flat, words_back}

-- an index whose numbers each have their width
pub record Writable (i : Index) : Type 0 where
  pub providers : length i.counts ≤ WORD
  pub counts : Each (λ n. n ≤ WORD) i.counts
  pub events : length i.entries ≤ WORD
  pub entries : All (Within ENTRY) i.entries

-- what is written, part by part
pub written-parts : (i : Index)
    → written i ≡ form EDITION ++ (form (length i.counts) ++ (flat form i.counts ++ (form (length i.entries) ++ flat form (flat (λ e. e) i.entries))))
unfolding flat
written-parts i = rw (flat_append form i.counts (length i.entries ∷ flat (λ e. e) i.entries)) refl

reads : (bytes : List ℕ) (i : Index) → Writable i → Lies bytes 0 (written i) (length bytes) → index bytes ≡ done i
unfolding index then
reads bytes i w l =
    let a = lies_split (form EDITION) _ (rw written-parts at l) in
    let b = lies_split (form (length i.counts)) _ a.1 in
    let c = lies_split (flat form i.counts) _ b.1 in
    let d = lies_split (form (length i.entries)) _ c.1 in
    rw (
      number-back bytes WORD 0 EDITION _ (omega arith) (omega arith) a.0,
      number-back bytes WORD _ (length i.counts) _ (omega arith) w.providers b.0,
      words_back bytes i.counts _ _ w.counts c.0,
      number-back bytes WORD _ (length i.entries) _ (omega arith) w.events d.0,
      rows_back bytes ENTRY i.entries _ _ (omega arith) w.entries d.1,
      eq-eqb (length bytes) (length bytes) refl,
      singles-flat,
    )

pub reads_back : (i : Index) → Writable i → index (written i) ≡ done i
reads_back i w = reads (written i) i w (lies_all (written i))
