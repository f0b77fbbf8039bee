-- The providers that are left: what a list has of the next one, and of the others.
use Rattle.std.specs.Prelude.{ℕ, suc, ◌+◌, ◌-◌, ◌<◌, ◌≤◌, ◌≡◌, refl, List, [], ◌∷◌, ◌++◌, length, Ok}
use Rattle.std.proofs.Math.Path.{ap}
use Rattle.std.proofs.Common.{sym, ◌∙◌, subst, add-one}
use borrow.Rule.Slice.PartMut.{mid_of, put_mid}
use Rattle.blob.specs.Reading.{Outcome, done, refused, run, many, verdict, values}
use Rattle.blob.specs.Laid.{flat}
use Rattle.blob.proofs.Laws.{not_fine, many-empty, many-stop, many_more, values-more}
use Rattle.format.specs.Definition.{step}
use Rattle.format.specs.Provider.{Provider}
use Rattle.format.specs.Crim.{described_at}
use Rattle.format.specs.Lists.{kept}
use Rattle.format.specs.Steps.Parts.{Counted, Room, parts, passed_all}
use Rattle.format.proofs.Theorems.Grows.{passed_all-tables}
use Rattle.format.proofs.Theorems.Stored.{Left, left-room, left-more, few-before}
use Rattle.provided.specs.Provided.{part_by, passed_by, ProviderRoom, ProviderStored}

module _ (s : List ℕ) (left at : ℕ) (h : 0 < left) (v : verdict (run (many described_at (step 20) left at) s) ≡ Ok tt) where
  pub next-provider : (p : Provider) × (run (described_at at) s ≡ done p)
  next-provider = go (run (described_at at) s) refl
    where
      go : (o : Outcome Provider) → run (described_at at) s ≡ o → (p : Provider) × (o ≡ done p)
      go (done p) e = (p, refl)
      go (refused r) e = absurd (not_fine r (sym (many-stop described_at (step 20) left at s r h e) ∙ v))

  pub next-fine : verdict (run (many described_at (step 20) (left - 1) (at + 20)) s) ≡ Ok tt
  next-fine = sym (many_more described_at (step 20) left at s next-provider.0 h next-provider.1) ∙ v

  abbrev others : List Provider
  others = values (run (many described_at (step 20) (left - 1) (at + 20)) s)

  -- what a list has of the next one and of the others
  module _ (l n : ℕ) (before : List ℕ) where
    abbrev o : Outcome Provider
    o = run (described_at at) s

    all_more : values (run (many described_at (step 20) left at) s) ≡ next-provider.0 ∷ others
    all_more = values-more described_at (step 20) left at s next-provider.0 h next-provider.1 v

    passed-more : passed_all l before (values (run (many described_at (step 20) left at) s)) ≡ passed_all l (passed_by l before o) others
    unfolding passed_all
    passed-more = ap (passed_all l before) all_more ∙ ap (λ x. passed_all l (passed_by l before x) others) (sym next-provider.1)

    parts_more : parts l n before (values (run (many described_at (step 20) left at) s)) ≡ part_by l n before o ++ parts l (suc n) (passed_by l before o) others
    unfolding parts
    parts_more = ap (parts l n before) all_more ∙ ap (λ x. part_by l n before x ++ parts l (suc n) (passed_by l before x) others) (sym next-provider.1)

    module _ {words behind lent area : List ℕ} {to : ℕ} (f : Left words behind lent (parts l n before (values (run (many described_at (step 20) left at) s))) (passed_all l before (values (run (many described_at (step 20) left at) s))) area to) (r : Room words behind lent) where
      apart : Left words behind lent (part_by l n before o ++ parts l (suc n) (passed_by l before o) others) (passed_all l (passed_by l before o) others) area to
      apart = rw (parts_more, passed-more) at f

      pub provider-room : (to ≤ length area) × ProviderRoom l n before o (mid_of to (length area - to) area)
      provider-room =
          let x = left-room (part_by l n before o) _ apart r in
          (x.0, record { fits = x.1; few = few-before l (passed_by l before o) (flat (λ p. kept p.elements) others) (subst Counted (apart.behind-is ∙ passed_all-tables l (passed_by l before o) others) r.few) })

      pub provider-left : (m : ℕ) (before' part : List ℕ) → ProviderStored l n before o (mid_of to (length area - to) area) m before' part
          → Left words behind lent (parts l (n + 1) before' others) (passed_all l before' others) (put_mid to (length area - to) area part) (to + m)
      provider-left m before' part s = rw (s.behind-is, add-one n) (left-more (part_by l n before o) _ apart r _ part m refl s.count s.area_is)

-- none is left
pub none_left : (s : List ℕ) (left at : ℕ) → left ≤ 0 → run (many described_at (step 20) left at) s ≡ done []
none_left s left at h = many-empty described_at (step 20) left at s h
