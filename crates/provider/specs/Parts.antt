-- What a reading of a whole provider finds, way by way, and what its lists need.
use Prim.{tt}
use Rattle.std.specs.Prelude.{ℕ, ◌+◌, ◌*◌, ◌≤◌, Bool, List, [], ◌∷◌, map, get_or, set, drop, Ok, Err}
use Rattle.std.proofs.Math.Path.{◌≡◌, refl}
use Rattle.std.proofs.Common.{ap, sym, ◌∙◌, arith}
use Rattle.std.proofs.Math.Bool.{true, false}
use Rattle.std.proofs.Math.ListN.{length}
use Rattle.std.proofs.Math.Dec.{leb}
use borrow.Author.Tests.{leb-true}
use Rattle.blob.specs.Le.{le}
use Rattle.blob.specs.declared.Refusal.{Refusal}
use Rattle.blob.specs.Reading.{Fault, Reading, got, room, Outcome, done, refused, choose, run, number, many, each, verdict, values}
use Rattle.blob.proofs.Laws.{run-after, run-stopped, run-number, run_room, run-got, finds-number, many-fine, many-count, fine-done, not_fine, refused-value, result_found, result_refused}
use Rattle.words.specs.Guid.{guid-found}
use Rattle.format.specs.Area.{PROVIDERS, DESCRIPTORS, UNKNOWN2, place}
use Rattle.format.specs.Field.{WEVT_descriptor_array, WEVT_unknown2_array}
use Rattle.format.specs.Refuse.{whole}
use Rattle.format.specs.Definition.{guid_at, step}
use Rattle.format.specs.Provider.{Element, wevt_at, wevt_read, descriptor_at, element_at, elements_from, provider_at}
use Rattle.format.specs.Crim.{described_at}
use Rattle.format.specs.Answer.{capped}
use Rattle.format.specs.Steps.Needs.{plus, provider_read}
use Rattle.format.specs.declared.Guid.{Guid}
use Rattle.format.specs.declared.Descriptor.{Descriptor}
use Rattle.format.specs.declared.Wevt.{Wevt}
use Rattle.element.specs.Counted.{needs_of, needed_for}

-- what each list needs for a provider with such a header, whose elements need so much
abbrev pub with_own : List ℕ → Wevt → List ℕ
with_own elements w = set (set (set elements (place PROVIDERS) 1) (place DESCRIPTORS) w.descriptors) (place UNKNOWN2) w.unknown2

-- what the answers tell of their readings
is_wevt : (o : Outcome Wevt) (w : Wevt) → Ok w ≡ wevt_read o → o ≡ done w
is_wevt o w h = let f = result_found (λ w. w) o w h in f.1 ∙ ap done (sym f.2)

no-wevt : (o : Outcome Wevt) (r : Refusal) → Err r ≡ wevt_read o → o ≡ refused r
no-wevt o r h = result_refused (λ w. w) o r h

is_needed : (o : Outcome (List Element)) (ns : List ℕ) → Ok ns ≡ needed_for o → (o ≡ done (values o)) × (ns ≡ map capped (needs_of (values o)))
is_needed o ns h = let f = result_found _ o ns h in rw f.1 (refl, f.2)

-- needs that are the same as far as anyone asks are the same once they are added
capped-twice : (n : ℕ) → capped (capped n) ≡ capped n
capped-twice n = omega arith

plus-capped : (ns xs ys : List ℕ) → map capped xs ≡ map capped ys → plus ns xs ≡ plus ns ys
unfolding plus
plus-capped [] xs ys e = refl
plus-capped (n ∷ ns) [] [] e = refl
plus-capped (n ∷ ns) [] (y ∷ ys) e = absurd (let z = ap length e in omega (arith, z))
plus-capped (n ∷ ns) (x ∷ xs) [] e = absurd (let z = ap length e in omega (arith, z))
plus-capped (n ∷ ns) (x ∷ xs) (y ∷ ys) e =
    let h : capped (n + x) ≡ capped (n + y) = omega (arith, ap (λ (l : List ℕ). get_or l 0 0) e) in
    rw (h, plus-capped ns xs ys (ap (λ (l : List ℕ). drop 1 l) e))

-- what the test of room tells
module _ (e : ℕ) (t : Fault) (s : List ℕ) where
  pub had_room : Ok tt ≡ verdict (run (room e t (got (tt {0}))) s) → e ≤ length s
  unfolding run
  had_room v = go (leb e (length s)) refl v
    where
      go : (b : Bool) → leb e (length s) ≡ b → Ok tt ≡ verdict (choose b (done (tt {0})) (refused (t.told (length s)))) → e ≤ length s
      go true g v = leb-true e (length s) g
      go false g v = absurd (not_fine _ (sym v))

  had_none : {A : Type 0} (k : Reading A) (r : Refusal) → Err r ≡ verdict (run (room e t (got (tt {0}))) s) → run (room e t k) s ≡ refused r
  unfolding run
  had_none {A} k r v = go (leb e (length s)) v
    where
      go : (b : Bool) → Err r ≡ verdict (choose b (done (tt {0})) (refused (t.told (length s)))) → choose b (run k s) (refused (t.told (length s))) ≡ refused r
      go true v = absurd (not_fine r v)
      go false v = cc

-- The ways, by what was answered for the parts so far.
module _ (s : List ℕ) (at offset : ℕ) (o : offset ≡ le 4 s (at + 16)) where
  -- a GUID is found wherever it is looked for
  guid : Guid
  guid = record { a = le 4 s at; b = le 4 s (at + 4); c = le 4 s (at + 8); d = le 4 s (at + 12) }

  described-run : run (described_at at) s ≡ run (provider_at guid offset) s
  unfolding described_at guid
  described-run = rw (run-after (guid_at at) _ s _ (guid-found at s), run-number, ← o)

  pub wevt_refused : (r : Refusal) → Err r ≡ wevt_read (run (wevt_at offset) s) → run (described_at at) s ≡ refused r
  unfolding provider_at
  wevt_refused r v = rw (described-run, run-stopped (wevt_at offset) _ s r (no-wevt _ r v))

  module _ (w : Wevt) (h : Ok w ≡ wevt_read (run (wevt_at offset) s)) where
    abbrev array : Reading (List Descriptor)
    array = many descriptor_at (step 8) w.descriptors (offset + 20)

    header : run (wevt_at offset) s ≡ done w
    header = is_wevt _ w h

    pub array-refused : (r : Refusal) → Err r ≡ verdict (run (whole WEVT_descriptor_array (offset + 20) (8 * w.descriptors) (got (tt {0}))) s)
        → run (described_at at) s ≡ refused r
    unfolding provider_at
    array-refused r v = rw (described-run, run-after (wevt_at offset) _ s w header, had_none _ _ s _ r v)

    module _ (i : offset + 20 + 8 * w.descriptors ≤ length s) where
      pub descriptors-refused : (r : Refusal) → Err r ≡ verdict (run array s) → run (described_at at) s ≡ refused r
      unfolding provider_at
      descriptors-refused r v = rw (described-run, run-after (wevt_at offset) _ s w header, run_room, run-stopped array _ s r (refused-value _ r v))

      module _ (f : verdict (run array s) ≡ Ok tt) where
        abbrev words : Reading (List ℕ)
        words = many (number 4) (step 4) w.unknown2 (offset + 20 + 8 * w.descriptors)

        descriptors : run array s ≡ done (values (run array s))
        descriptors = fine-done _ f

        pub words-refused : (r : Refusal)
            → Err r ≡ verdict (run (whole WEVT_unknown2_array (offset + 20 + 8 * w.descriptors) (4 * w.unknown2) (got (tt {0}))) s)
            → run (described_at at) s ≡ refused r
        unfolding provider_at
        words-refused r v = rw (described-run, run-after (wevt_at offset) _ s w header, run_room, run-after array _ s _ descriptors, had_none _ _ s _ r v)

        module _ (j : offset + 20 + 8 * w.descriptors + 4 * w.unknown2 ≤ length s) where
          -- a word is never refused
          unknown2 : run words s ≡ done (values (run words s))
          unknown2 = fine-done _ (many-fine (number 4) (step 4) s (λ p. (_, finds-number 4 p s)) _ _)

          elements-run : run (elements_from w.descriptors (offset + 20)) s ≡ run (each element_at (values (run array s))) s
          elements-run = run-after array (each element_at) s _ descriptors

          pub elements-refused : (r : Refusal) → Err r ≡ needed_for (run (elements_from w.descriptors (offset + 20)) s) → run (described_at at) s ≡ refused r
          unfolding provider_at
          elements-refused r v =
              rw (
                described-run,
                run-after (wevt_at offset) _ s w header,
                run_room,
                run-after array _ s _ descriptors,
                run_room,
                run-after words _ s _ unknown2,
                run-stopped (each element_at _) _ s r (sym elements-run ∙ result_refused _ _ r v),
              )

          found : (es : List Element) → run (elements_from w.descriptors (offset + 20)) s ≡ done es
              → run (described_at at) s ≡ done (record { guid = guid; offset = offset; size = w.size; message = w.message; descriptors = values (run array s); unknown2 = values (run words s); elements = es })
          unfolding provider_at
          found es g =
              rw (
                described-run,
                run-after (wevt_at offset) _ s w header,
                run_room,
                run-after array _ s _ descriptors,
                run_room,
                run-after words _ s _ unknown2,
                run-after (each element_at _) _ s es (sym elements-run ∙ g),
                run-got,
              )

          pub provider-found : (needs ns : List ℕ) → Ok ns ≡ needed_for (run (elements_from w.descriptors (offset + 20)) s)
              → Ok (plus needs (with_own ns w)) ≡ provider_read needs (run (described_at at) s)
          provider-found needs ns v =
              let f = is_needed (run (elements_from w.descriptors (offset + 20)) s) ns v in
              let d = many-count descriptor_at (step 8) _ _ s _ descriptors in
              let u = many-count (number 4) (step 4) _ _ s _ unknown2 in
              rw (found _ f.0, f.1, d, u) (ap Ok (plus-capped needs _ _ (simp capped-twice)))
