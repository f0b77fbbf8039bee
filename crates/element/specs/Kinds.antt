-- A provider's kept tables, kind by kind, as the code walks over them.
use Prim.Native.Nat.{ℕ, zero, suc, ◌+◌, ◌-◌, ◌≤◌, ◌<◌}
use Rattle.std.specs.Prelude.{◌≡◌, List, [], ◌∷◌, ◌++◌, length, Ok}
use Rattle.std.proofs.Math.Path.{refl, ap}
use Rattle.std.proofs.Common.{sym, ◌∙◌}
use native.Mathlib.Omega.{arith}
use Rattle.blob.specs.Laid.{flat}
use Rattle.blob.specs.Reading.{run, verdict, values}
use Rattle.format.specs.Provider.{Table, Element, elements_from}
use Rattle.format.specs.Lists.{last_of, kept}
use Rattle.format.specs.Steps.Needs.{place_of}
use Rattle.table.specs.Headers.{header-bytes}
use Rattle.element.specs.Tables.{Kept, kept-one}

-- so many kinds from one on
unfoldable pub kinds_from : ℕ → ℕ → List ℕ
kinds_from zero k = []
kinds_from (suc n) k = k ∷ kinds_from n (k + 1)

-- the kept tables of those kinds
abbrev pub kept_from : List Element → ℕ → ℕ → List Table
kept_from es left k = flat (λ k. last_of k es) (kinds_from left k)

module _ (es : List Element) where
  pub kept-all : kept es ≡ kept_from es 8 1
  unfolding kinds_from
  kept-all = refl

  pub kept_more : (left k : ℕ) → 0 < left → kept_from es left k ≡ last_of k es ++ kept_from es (left - 1) (k + 1)
  unfolding kinds_from flat
  kept_more left k h = let e : left ≡ suc (left - 1) = omega arith in ap (λ n. kept_from es n k) e

  pub kept-none : (left k : ℕ) → left ≤ 0 → kept_from es left k ≡ []
  unfolding kinds_from flat
  kept-none left k h = let e : left ≡ 0 = omega arith in rw e

-- what the place of a kind's last table tells
module _ (s : List ℕ) (n at k : ℕ) (v : verdict (run (elements_from n at) s) ≡ Ok tt) (place : ℕ) (p : place ≡ place_of (last_of k (values (run (elements_from n at) s)))) where
  abbrev last : List Table
  last = last_of k (values (run (elements_from n at) s))

  pub kept_here : (place ≡ 4294967295 → ⊥) → (t : Table) × (last ≡ t ∷ []) × (t.offset ≡ place) × Kept k s t
  kept_here h = go last refl p
    where
      go : (l : List Table) → last ≡ l → place ≡ place_of l → (t : Table) × (last ≡ t ∷ []) × (t.offset ≡ place) × Kept k s t
      go [] e q = absurd (h q)
      go (t ∷ ts) e q =
          let o = kept-one s n at k t ts v e in
          (t, e ∙ ap (λ (l : List Table). t ∷ l) o.0, sym q, o.1)

  -- its header is there
  pub kept-header : (place ≡ 4294967295 → ⊥) → place + 12 ≤ length s
  kept-header h =
      let t = kept_here h in
      omega (arith, t.2, t.3.fits, header-bytes _ t.3.known.0 t.3.known.1)

  pub kept-nowhere : length s ≤ 16777216 → place ≡ 4294967295 → last ≡ []
  kept-nowhere l h = go last refl p
    where
      go : (l : List Table) → last ≡ l → place ≡ place_of l → last ≡ []
      go [] e q = e
      go (t ∷ ts) e q = absurd (omega (arith, (kept-one s n at k t ts v e).1.fits))
