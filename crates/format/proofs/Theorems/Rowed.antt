-- The lists by name, as the code has them in their order (`List::ALL`), are those of the rows.
use Rattle.std.specs.Prelude.{ℕ, ◌<◌, ◌≡◌, refl, map, eqb, get_or}
use Rattle.std.proofs.Common.{eqb-true, ap, sym, ◌∙◌}
use Rattle.blob.proofs.Laws.{passes}
use Rattle.format.specs.Area.{rows, AREAS, place}
use Rattle.format.specs.Named.{number_of}
use Rattle.format.specs.declared.list.List as list
use Rattle.format.specs.declared.list.TheConstants.List.{ALL}
use Rattle.format.specs.declared.list.List.TheVariants.{Providers, Descriptors, Unknown2, Tables, Definitions, Events, Maps, Entries, Templates, Unknown, Items}

-- which list has a row
abbrev pub list_at : ℕ → list.List
list_at row = get_or ALL row Providers

module _ (row : ℕ) (h : row < AREAS) where
  pub place-at : place (number_of (list_at row)) ≡ row
  place-at = eqb-true _ _ (passes AREAS (λ i. eqb (place (number_of (list_at i))) i) refl row h)

  pub number-at : number_of (list_at row) ≡ get_or (map (λ r. r.number) rows) row 0
  number-at = eqb-true _ _ (passes AREAS (λ i. eqb (number_of (list_at i)) (get_or (map (λ r. r.number) rows) i 0)) refl row h)

at-place : (l : list.List) → list_at (place (number_of l)) ≡ l
at-place Providers = refl
at-place Descriptors = refl
at-place Unknown2 = refl
at-place Tables = refl
at-place Definitions = refl
at-place Events = refl
at-place Maps = refl
at-place Entries = refl
at-place Templates = refl
at-place Unknown = refl
at-place Items = refl

-- no two have one number
pub apart : (l m : list.List) → (l ≡ m → ⊥) → number_of l ≡ number_of m → ⊥
apart l m h e = h (sym (at-place l) ∙ ap (λ n. list_at (place n)) e ∙ at-place m)
