-- The lookup by offset, by what was tested.
use Rattle.std.specs.Prelude.{Ok, Err, ℕ, ◌+◌, ◌≤◌, ◌<◌, ◌≡◌, refl, ◌&&◌, List, [], ◌∷◌, take}
use Rattle.std.proofs.Common.{ap, ◌∙◌, arith}
use Rattle.std.proofs.Math.Path.{sym}
use Rattle.std.proofs.Math.Dec.{leb}
use borrow.Author.Tests.{le-leb, lt-leb}
use Rattle.blob.specs.declared.Refusal.{Refusal}
use Rattle.format.specs.Area.{TEMPLATES, rows, place, width, of}
use Rattle.format.specs.Entry.{TEMPLATE_PROVIDER}
use Rattle.format.specs.Answer.{areas, own, lent_enough}
use Rattle.format.specs.Lookup.{counts_fit, position, numbered, matches, by_offset}
use Rattle.lists.specs.Entries.{part-entries}
use Rattle.lists.specs.Fit.{inside, refused_as, refused-further}
use Rattle.lists.specs.Found.{entries, has, found, fit, Fit}
use Rattle.lists.specs.Search.{has-two, position-same}
use Rattle.lists.specs.declared.Run.{Run}

found_one : (ns : List ℕ) → Ok (found ns) ≡ numbered ns
found_one [] = refl
found_one (n ∷ ns) = refl

module _ (words capacities counts : List ℕ) (provider first count offset : ℕ) where
  pub offset-refused : (r : Refusal) → fit words capacities counts ≡ Err r → by_offset words capacities counts provider first count offset ≡ Err r
  unfolding by_offset
  offset-refused r e =
      refused_as Err _ (lent_enough capacities words) (counts_fit counts capacities && leb (first + count) (of TEMPLATES counts)) r
      (refused-further (lent_enough capacities words) (counts_fit counts capacities) _ r e)

  pub offset-past : Fit words capacities counts → of TEMPLATES counts < first + count → by_offset words capacities counts provider first count offset ≡ Err (own 10)
  unfolding by_offset
  offset-past f h = rw (f.0, f.1, lt-leb _ _ h)

  abbrev range : Run
  range = record { start = areas rows (take (place TEMPLATES) capacities); first = first; count = count }

  -- what the code searches for
  abbrev searched : List ℕ
  searched = position (has TEMPLATE_PROVIDER (provider ∷ offset ∷ [])) first (entries (width TEMPLATES) range words)

  pub offset-found : Fit words capacities counts → first + count ≤ of TEMPLATES counts → by_offset words capacities counts provider first count offset ≡ Ok (found searched)
  unfolding by_offset
  offset-found f h =
      let w = (inside words capacities counts f (place TEMPLATES)).0 in
      rw (f.0, f.1, le-leb _ _ h, part-entries (width TEMPLATES) words first count (of TEMPLATES counts) range.start h)
      (ap numbered (sym (position-same (has TEMPLATE_PROVIDER (provider ∷ offset ∷ [])) (matches provider offset) words (width TEMPLATES) count _ first (omega arith) (λ e l. has-two TEMPLATE_PROVIDER provider offset e (omega arith))))
      ∙ sym (found_one searched))
