-- What list 10 has of the elements that are left: of the next one, if it is of no known kind, and of those behind it.
use Rattle.std.specs.Prelude.{ℕ, ◌+◌, ◌-◌, ◌*◌, ◌≤◌, ◌<◌, ◌≡◌, Bool, Ok}
use Rattle.std.proofs.Math.Path.{refl, ap, ap₂}
use Rattle.std.proofs.Common.{sym, ◌∙◌, arith, eqb-true}
use Rattle.std.proofs.Math.Bool.{true, false}
use mathlib.Core.List.{List, [], ◌∷◌}
use Rattle.std.proofs.Math.ListN.{length}
use Rattle.std.proofs.Math.Dec.{eqb}
use Rattle.std.proofs.lemmas.Bool.{eqb-false}
use Rattle.blob.specs.Le.{le}
use Rattle.blob.specs.Reading.{done, run, verdict, values, choose}
use Rattle.blob.specs.Laid.{laid, laid_more, flat}
use Rattle.blob.proofs.Laws.{same}
use Rattle.format.specs.Area.{UNKNOWN, width}
use Rattle.format.specs.Table.{kind_of}
use Rattle.format.specs.Provider.{Element, descriptor_at, elements_from}
use Rattle.format.specs.Lists.{unknowns, unknown_words}
use Rattle.format.specs.declared.Descriptor.{Descriptor}
use Rattle.format.specs.declared.Unknown.{Unknown}
use Rattle.element.specs.Elements.{descriptor_words_lem, next-element, from-values}
use Rattle.element.specs.Counted.{unknown-here, unknown-fits, unknown-other}

-- the elements of no known kind that are left
abbrev pub unread : List ℕ → ℕ → ℕ → List Unknown
unread s left at = unknowns (values (run (elements_from left at) s))

-- a descriptor's element, if it is of no known kind
abbrev pub words_of : List ℕ → ℕ → Descriptor → List ℕ
words_of s number d = choose (eqb (kind_of d.signature) 0) (number ∷ d.signature ∷ d.offset ∷ le 4 s (d.offset + 4) ∷ []) []

-- the area once their words are laid from here, and where they then end
abbrev pub Rest : ℕ → List Unknown → List Unknown → List ℕ → List ℕ → ℕ → ℕ → Type 0
Rest number us vs area area' to to' =
    (to + width UNKNOWN * length us ≡ to' + width UNKNOWN * length vs) × (laid area to (flat (unknown_words number) us) ≡ laid area' to' (flat (unknown_words number) vs))

module _ (s : List ℕ) (left at : ℕ) (h : 0 < left) (d : Descriptor) (found : run (descriptor_at at) s ≡ done d) (v : verdict (run (elements_from left at) s) ≡ Ok tt) where
  abbrev rest : List Element
  rest = values (run (elements_from (left - 1) (at + 8)) s)

  signed : d.signature ≡ le 4 s d.offset
  signed = let e = same d _ (sym found ∙ descriptor_words_lem s at (ap verdict found) _ _ _ refl refl refl) in rw e

  here : kind_of d.signature ≡ 0 → unread s left at ≡ record { signature = d.signature; offset = d.offset; size = le 4 s (d.offset + 4) } ∷ unknowns rest
  here k =
      let e = next-element s left at h d found v in
      ap unknowns (from-values s left at h d found v) ∙ unknown-here s d e.0 e.1 rest k
      ∙ ap (λ x. record { signature = x; offset = d.offset; size = le 4 s (d.offset + 4) } ∷ unknowns rest) (sym signed)

  pub unknown-room : kind_of d.signature ≡ 0 → (d.offset + 8 ≤ length s) × (1 ≤ length (unread s left at))
  unknown-room k =
      let e = next-element s left at h d found v in
      let l = ap length (here k) in
      (unknown-fits s d e.0 e.1 rest k, omega (arith, l))

  pub unknown-next : (number to to' : ℕ) (area area' : List ℕ) → area' ≡ laid area to (words_of s number d) → to' ≡ choose (eqb (kind_of d.signature) 0) (to + width UNKNOWN) to
      → Rest number (unread s left at) (unknowns rest) area area' to to'
  unfolding flat laid
  unknown-next number to to' area area' g t = go (eqb (kind_of d.signature) 0) refl g t
    where
      go : (b : Bool) → eqb (kind_of d.signature) 0 ≡ b
          → area' ≡ laid area to (choose b (number ∷ d.signature ∷ d.offset ∷ le 4 s (d.offset + 4) ∷ []) []) → to' ≡ choose b (to + width UNKNOWN) to
          → Rest number (unread s left at) (unknowns rest) area area' to to'
      go true k g t =
          let u = here (eqb-true (kind_of d.signature) 0 k) in
          let l = ap length u in (
            omega (arith, l, t),
            ap (λ (us : List Unknown). laid area to (flat (unknown_words number) us)) u
                ∙ laid_more area to (number ∷ d.signature ∷ d.offset ∷ le 4 s (d.offset + 4) ∷ []) (flat (unknown_words number) (unknowns rest))
                ∙ ap₂ (λ (a : List ℕ) n. laid a n (flat (unknown_words number) (unknowns rest))) (sym g) (sym t),
          )
      go false k g t =
          let e = next-element s left at h d found v in
          let u : unread s left at ≡ unknowns rest = ap unknowns (from-values s left at h d found v) ∙ unknown-other s d e.0 e.1 rest (eqb-false (kind_of d.signature) 0 k) in
          rw (u, g, t) (refl, refl)
