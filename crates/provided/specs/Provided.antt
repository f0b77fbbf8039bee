-- What a filler of a list needs of a provider that is fine, and what it then has stored, list by list.
use Rattle.std.specs.Prelude.{ℕ, ◌+◌, ◌*◌, ◌≤◌, ◌≡◌, List, [], ◌∷◌, length, Ok}
use Rattle.std.proofs.Math.Path.{refl, ap}
use Rattle.std.proofs.Common.{ap₂, sym, ◌∙◌, subst, arith}
use borrow.Author.Tests.{ne_eqb}
use Rattle.blob.specs.Le.{le}
use Rattle.blob.specs.Reading.{Outcome, done, run, number, many, each, answer, verdict, values}
use Rattle.blob.specs.Laid.{laid, flat}
use Rattle.blob.proofs.Laws.{same, fine-value, run-after, many-count, length-flat}
use Rattle.blob.proofs.Finds.{Finds, finds-got, finds-room, finds-demand, finds-next}
use Rattle.format.specs.Area.{PROVIDERS, DESCRIPTORS, UNKNOWN2, UNKNOWN, width}
use Rattle.format.specs.Definition.{guid_at, step}
use Rattle.format.specs.Provider.{Table, Provider, Element, wevt_at, descriptor_at, element_at, elements_from}
use Rattle.format.specs.Crim.{described_at}
use Rattle.format.specs.Lists.{kept, unknowns, descriptor_words, unknown2_words, unknown_words}
use Rattle.format.specs.Steps.Parts.{Room, Stored, part, passed, behind, behind_all, table_parts}
use Rattle.format.proofs.Theorems.Grows.{behind_all-same}
use Rattle.format.proofs.Theorems.Described.{Described, described}
use Rattle.format.specs.declared.Guid.{Guid}
use Rattle.format.specs.declared.Wevt.{Wevt}

abbrev pub part_by : ℕ → ℕ → List ℕ → Outcome Provider → List ℕ
part_by l n before o = answer (part l n before) (λ r. []) o

abbrev pub passed_by : ℕ → List ℕ → Outcome Provider → List ℕ
passed_by l before o = answer (passed l before) (λ r. before) o

-- an area has room for what a list has of a provider, and it was stored there
abbrev pub ProviderRoom : ℕ → ℕ → List ℕ → Outcome Provider → List ℕ → Type 0
ProviderRoom l n before o area = Room (part_by l n before o) (passed_by l before o) area

abbrev pub ProviderStored : ℕ → ℕ → List ℕ → Outcome Provider → List ℕ → ℕ → List ℕ → List ℕ → Type 0
ProviderStored l n before o area m before' area' = Stored (part_by l n before o) (passed_by l before o) area m before' area'

-- an accepted header is its words
wevt_finds : (o : ℕ) (s : List ℕ)
    → Finds (wevt_at o) s (λ v. (o + 20 ≤ length s) × (v ≡ record { size = le 4 s (o + 4); message = le 4 s (o + 8); descriptors = le 4 s (o + 12); unknown2 = le 4 s (o + 16) }))
unfolding wevt_at
wevt_finds o s =
    finds-room (λ _. finds-room (λ room. finds-next 4 o (λ f _. finds-demand _ _ (λ _.
    finds-next 4 (o + 4) (λ a ea. finds-next 4 (o + 8) (λ b eb. finds-next 4 (o + 12) (λ c ec. finds-next 4 (o + 16) (λ d ed.
    finds-got (room, rw (ea, eb, ec, ed))))))))))

module _ (at : ℕ) (s : List ℕ) (v : verdict (run (described_at at) s) ≡ Ok tt) where
  -- the provider, and its parts
  pub provided : (p : Provider) × (run (described_at at) s ≡ done p) × Described at s p
  provided = let p = fine-value _ v in (p.0, p.1, described s at p.0 p.1)

  place : ℕ
  place = le 4 s (at + 16)

  pub header-room : le 4 s (at + 16) + 20 ≤ length s
  header-room = let d = provided.2 in rw d.offset at ((wevt_finds _ s).found _ d.wevt).0

  pub header-words : run (wevt_at (le 4 s (at + 16))) s
      ≡ done (record { size = le 4 s (le 4 s (at + 16) + 4); message = le 4 s (le 4 s (at + 16) + 8); descriptors = le 4 s (le 4 s (at + 16) + 12); unknown2 = le 4 s (le 4 s (at + 16) + 16) })
  header-words =
      let d = provided.2 in
      ap (λ o. run (wevt_at o) s) (sym d.offset) ∙ d.wevt ∙ ap done ((wevt_finds _ s).found _ d.wevt).1
      ∙ ap (λ o. done (record { size = le 4 s (o + 4); message = le 4 s (o + 8); descriptors = le 4 s (o + 12); unknown2 = le 4 s (o + 16) })) d.offset

-- A provider's parts, by the place and the header that the code has read.
pub record Given (o : ℕ) (h : Wevt) (s : List ℕ) (p : Provider) : Type 0 where
  pub offset : p.offset ≡ o
  pub size : p.size ≡ h.size
  pub message : p.message ≡ h.message
  pub array : o + 20 + 8 * h.descriptors ≤ length s
  pub descriptors : run (many descriptor_at (step 8) h.descriptors (o + 20)) s ≡ done p.descriptors
  pub words : o + 20 + 8 * h.descriptors + 4 * h.unknown2 ≤ length s
  pub unknown2 : run (many (number 4) (step 4) h.unknown2 (o + 20 + 8 * h.descriptors)) s ≡ done p.unknown2
  pub elements : run (elements_from h.descriptors (o + 20)) s ≡ done p.elements

module _ (at : ℕ) (s : List ℕ) (v : verdict (run (described_at at) s) ≡ Ok tt) (h : Wevt) (r : run (wevt_at (le 4 s (at + 16))) s ≡ done h) where
  p : Provider
  p = (provided at s v).0

  pub given : Given (le 4 s (at + 16)) h s (provided at s v).0
  given =
      let d = (provided at s v).2 in
      let e : d.header ≡ h = same _ _ (sym d.wevt ∙ ap (λ o. run (wevt_at o) s) d.offset ∙ r) in
      record {
        offset = d.offset;
        size = d.size ∙ ap (λ (x : Wevt). x.size) e;
        message = d.message ∙ ap (λ (x : Wevt). x.message) e;
        array = subst (λ (x : Wevt). le 4 s (at + 16) + 20 + 8 * x.descriptors ≤ length s) e (subst (λ o. o + 20 + 8 * d.header.descriptors ≤ length s) d.offset d.array);
        descriptors =
            ap₂ (λ o (x : Wevt). run (many descriptor_at (step 8) x.descriptors (o + 20)) s) (sym d.offset) (sym e) ∙ d.descriptors;
        words = subst (λ (x : Wevt). le 4 s (at + 16) + 20 + 8 * x.descriptors + 4 * x.unknown2 ≤ length s) e (subst (λ o. o + 20 + 8 * d.header.descriptors + 4 * d.header.unknown2 ≤ length s) d.offset d.words);
        unknown2 =
            ap₂ (λ o (x : Wevt). run (many (number 4) (step 4) x.unknown2 (o + 20 + 8 * x.descriptors)) s) (sym d.offset) (sym e) ∙ d.unknown2;
        elements =
            ap₂ (λ o (x : Wevt). run (elements_from x.descriptors (o + 20)) s) (sym d.offset) (sym e)
            ∙ run-after (many descriptor_at (step 8) d.header.descriptors ((provided at s v).0.offset + 20)) (each element_at) s _ d.descriptors
            ∙ d.elements;
      }

  -- the elements that it has, as the code reads them
  abbrev elements : List Element
  elements = values (run (elements_from h.descriptors (le 4 s (at + 16) + 20)) s)

  module _ (n : ℕ) (before area : List ℕ) where
    abbrev Filled : ℕ → List ℕ → Type 0
    Filled l ws =
        (ProviderRoom l n before (run (described_at at) s) area → length ws ≤ length area)
        × ((m : ℕ) (area' : List ℕ) → m ≡ length ws → area' ≡ laid area 0 ws → ProviderStored l n before (run (described_at at) s) area m before area')

    part_by_lem : (l : ℕ) → part_by l n before (run (described_at at) s) ≡ part l n before (provided at s v).0
    part_by_lem l = ap (part_by l n before) (provided at s v).1

    -- a list that counts nothing
    plain : (l : ℕ) (ws : List ℕ) → ((b : List ℕ) (t : Table) → behind l b t ≡ b) → part l n before (provided at s v).0 ≡ ws → Filled l ws
    plain l ws same e =
        let p = part_by_lem l ∙ e in
        let b = ap (passed_by l before) (provided at s v).1 ∙ behind_all-same l same before (kept (provided at s v).0.elements) in (
          λ r. omega (arith, r.fits, ap length p),
          λ k area' c g. record { count = c ∙ sym (ap length p); behind-is = sym b; area_is = g ∙ sym (ap (laid area 0) p) },
        )

    pub filled-providers : (g : Guid) → run (guid_at at) s ≡ done g
        → Filled PROVIDERS (g.a ∷ g.b ∷ g.c ∷ g.d ∷ le 4 s (at + 16) ∷ h.size ∷ h.message ∷ h.descriptors ∷ h.unknown2 ∷ [])
    unfolding part
    filled-providers g q =
        let x = given in
        let e : (provided at s v).0.guid ≡ g = same _ _ (sym (provided at s v).2.guid ∙ q) in
        plain PROVIDERS _ (λ b t. refl) (rw (e, x.offset, x.size, x.message, many-count descriptor_at (step 8) _ _ s _ x.descriptors, many-count (number 4) (step 4) _ _ s _ x.unknown2) refl)

    pub filled-descriptors : Filled DESCRIPTORS (flat descriptor_words (values (run (many descriptor_at (step 8) h.descriptors (le 4 s (at + 16) + 20)) s)))
        × (length (flat descriptor_words (values (run (many descriptor_at (step 8) h.descriptors (le 4 s (at + 16) + 20)) s))) ≡ width DESCRIPTORS * h.descriptors)
    unfolding part
    filled-descriptors =
        let x = given in
        rw x.descriptors (plain DESCRIPTORS _ (λ b t. refl) refl, length-flat descriptor_words (width DESCRIPTORS) (λ d. refl) (provided at s v).0.descriptors ∙ ap (λ m. width DESCRIPTORS * m) (many-count descriptor_at (step 8) _ _ s _ x.descriptors))

    pub filled-unknown2 : Filled UNKNOWN2 (flat unknown2_words (values (run (many (number 4) (step 4) h.unknown2 (le 4 s (at + 16) + 20 + 8 * h.descriptors)) s)))
        × (length (flat unknown2_words (values (run (many (number 4) (step 4) h.unknown2 (le 4 s (at + 16) + 20 + 8 * h.descriptors)) s))) ≡ width UNKNOWN2 * h.unknown2)
    unfolding part
    filled-unknown2 =
        let x = given in
        rw x.unknown2 (plain UNKNOWN2 _ (λ b t. refl) refl, length-flat unknown2_words (width UNKNOWN2) (λ d. refl) (provided at s v).0.unknown2 ∙ ap (λ m. width UNKNOWN2 * m) (many-count (number 4) (step 4) _ _ s _ x.unknown2))

    pub filled-unknown : Filled UNKNOWN (flat (unknown_words n) (unknowns elements)) × (length (flat (unknown_words n) (unknowns elements)) ≡ width UNKNOWN * length (unknowns elements))
    unfolding part
    filled-unknown = let x = given in rw x.elements (plain UNKNOWN _ (λ b t. refl) refl, length-flat (unknown_words n) (width UNKNOWN) (λ u. refl) (unknowns (provided at s v).0.elements))

    -- a list that goes over the tables
    pub filled-tables : (l : ℕ) → (l ≡ PROVIDERS → ⊥) → (l ≡ DESCRIPTORS → ⊥) → (l ≡ UNKNOWN2 → ⊥) → (l ≡ UNKNOWN → ⊥)
        → (part_by l n before (run (described_at at) s) ≡ table_parts l n before (kept elements)) × (passed_by l before (run (described_at at) s) ≡ behind_all l before (kept elements))
    unfolding part
    filled-tables l a b c d =
        let x = given in
        rw x.elements (part_by_lem l ∙ rw (ne_eqb l PROVIDERS a, ne_eqb l DESCRIPTORS b, ne_eqb l UNKNOWN2 c, ne_eqb l UNKNOWN d) refl, ap (passed_by l before) (provided at s v).1)
