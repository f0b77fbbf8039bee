-- A provider's elements, descriptor by descriptor: what the next one makes of those that are left.
use Rattle.std.specs.Prelude.{ℕ, ◌+◌, ◌-◌, ◌≤◌, ◌<◌, ◌≡◌, refl, Bool, true, false, length, eqb, Ok}
use Rattle.std.proofs.Math.Path.{ap}
use Rattle.std.proofs.Common.{sym, ◌∙◌}
use mathlib.Core.List.{List, [], ◌∷◌}
use Rattle.blob.specs.Le.{le}
use Rattle.blob.specs.declared.Refusal.{Refusal}
use Rattle.blob.specs.Reading.{Outcome, done, refused, choose, run, many, each, then, verdict, values}
use Rattle.blob.proofs.Laws.{fine-value, run_bind, run-after, not_fine, fine-done, then-done, told_more, many-empty, many-stop, values-more, each-told, each-stop}
use Rattle.blob.proofs.Finds.{Finds, finds-got, finds-room, finds-next}
use Rattle.format.specs.Definition.{step}
use Rattle.format.specs.Provider.{Table, Element, table, descriptor_at, element_at, elements_from}
use Rattle.format.specs.Lists.{last_of, or_else}
use Rattle.format.specs.declared.Descriptor.{Descriptor}

-- a descriptor that is fine is its words
module _ (s : List ℕ) (at : ℕ) where
  abbrev described : Descriptor
  described = record { offset = le 4 s at; unknown = le 4 s (at + 4); signature = le 4 s (le 4 s at) }

  descriptor_told : Finds (descriptor_at at) s (λ d. (d ≡ described) × (le 4 s at + 4 ≤ length s))
  unfolding descriptor_at
  descriptor_told =
      finds-next 4 at (λ o eo. finds-next 4 (at + 4) (λ u eu. finds-room (λ a. finds-room (λ b. finds-next 4 o (λ sig es.
      finds-got (rw (es, eu, eo), rw eo at b))))))

  pub signature-fits : (d : Descriptor) → run (descriptor_at at) s ≡ done d → d.offset + 4 ≤ length s
  signature-fits d e = let t = descriptor_told.found d e in rw t.0 t.1

  module _ (v : verdict (run (descriptor_at at) s) ≡ Ok tt) where
    pub descriptor_fits : le 4 s at + 4 ≤ length s
    descriptor_fits = let d = fine-value _ v in (descriptor_told.found d.0 d.1).1

    pub descriptor_words_lem : (offset unknown signature : ℕ) → offset ≡ le 4 s at → unknown ≡ le 4 s (at + 4) → signature ≡ le 4 s offset
        → run (descriptor_at at) s ≡ done (record { offset = offset; unknown = unknown; signature = signature })
    descriptor_words_lem o u g eo eu eg =
        let d = fine-value _ v in
        rw (eg, eu, eo) (d.1 ∙ ap done (descriptor_told.found d.0 d.1).0)

module _ (s : List ℕ) (left at : ℕ) where
  pub from-none : left ≤ 0 → run (elements_from left at) s ≡ done []
  unfolding each run
  from-none h = run-after _ _ s [] (many-empty descriptor_at (step 8) left at s h)

  -- the descriptors of accepted elements are fine
  pub from-described : verdict (run (elements_from left at) s) ≡ Ok tt → verdict (run (many descriptor_at (step 8) left at) s) ≡ Ok tt
  from-described v = ap verdict (then-done _ _ _ (sym (run_bind _ _ s) ∙ fine-done _ v)).1

  module _ (h : 0 < left) where
    pub next-described : verdict (run (many descriptor_at (step 8) left at) s) ≡ Ok tt → verdict (run (descriptor_at at) s) ≡ Ok tt
    next-described v = go (run (descriptor_at at) s) refl
      where
        go : (o : Outcome Descriptor) → run (descriptor_at at) s ≡ o → verdict o ≡ Ok tt
        go (done d) e = refl
        go (refused r) e = absurd (not_fine r (sym (many-stop descriptor_at (step 8) left at s r h e) ∙ v))

    module _ (d : Descriptor) (found : run (descriptor_at at) s ≡ done d) where
      pub from-stop : (r : Refusal) → run (element_at d) s ≡ refused r → verdict (run (many descriptor_at (step 8) left at) s) ≡ Ok tt
          → run (elements_from left at) s ≡ refused r
      from-stop r e v =
          run-after _ _ s _ (fine-done _ v ∙ ap done (values-more descriptor_at (step 8) left at s d h found v)) ∙ each-stop element_at s d _ r e

      -- what the rest tells, with a running state or without: T before an element is T' behind it
      pub from_told : {R : Type 0} (T T' : Outcome (List Element) → R) (e : Element) → ((es : List Element) → T (done (e ∷ es)) ≡ T' (done es))
          → ((r : Refusal) → T (refused r) ≡ T' (refused r)) → run (element_at d) s ≡ done e
          → T (run (elements_from left at) s) ≡ T' (run (elements_from (left - 1) (at + 8)) s)
      unfolding then
      from_told T T' e f g i =
          ap T (run_bind _ _ s)
          ∙ told_more descriptor_at (step 8) (λ o. T (then o (λ ds. run (each element_at ds) s))) (λ o. T' (then o (λ ds. run (each element_at ds) s))) left at s d
          (λ ds. each-told element_at s T T' d ds e f g i) g h found
          ∙ ap T' (sym (run_bind _ _ s))

      pub from_more : (e : Element) → run (element_at d) s ≡ done e
          → run (elements_from left at) s ≡ then (run (elements_from (left - 1) (at + 8)) s) (λ es. done (e ∷ es))
      unfolding then
      from_more e i = from_told (λ o. o) (λ o. then o (λ es. done (e ∷ es))) e (λ es. refl) (λ r. refl) i

      module _ (v : verdict (run (elements_from left at) s) ≡ Ok tt) where
        pub next-element : (e : Element) × (run (element_at d) s ≡ done e)
        next-element = go (run (element_at d) s) refl
          where
            go : (o : Outcome Element) → run (element_at d) s ≡ o → (e : Element) × (o ≡ done e)
            go (done e) i = (e, refl)
            go (refused r) i = absurd (not_fine r (sym (ap verdict (from-stop r i (from-described v))) ∙ v))

        pub from-fine : verdict (run (elements_from (left - 1) (at + 8)) s) ≡ Ok tt
        from-fine = sym (from_told verdict verdict next-element.0 (λ es. refl) (λ r. refl) next-element.1) ∙ v

        pub from-values : values (run (elements_from left at) s) ≡ next-element.0 ∷ values (run (elements_from (left - 1) (at + 8)) s)
        unfolding then
        from-values =
            ap values (from_more next-element.0 next-element.1 ∙ ap (λ o. then o (λ es. done (next-element.0 ∷ es))) (fine-done (run (elements_from (left - 1) (at + 8)) s) from-fine))

-- what the last table of a kind gives; where there is none, what was given before
abbrev pub last_or : {B : Type 0} → (Table → B) → B → List Table → B
last_or f b [] = b
last_or f b (t ∷ ts) = f t

pub last-table : {B : Type 0} (f : Table → B) (b : B) (k : ℕ) (t : Table) (es : List Element)
    → last_or f b (last_of k (table t ∷ es)) ≡ last_or f (choose (eqb t.kind k) (f t) b) (last_of k es)
unfolding last_of
last-table f b k t es = go (last_of k es) (eqb t.kind k)
  where
    go : (l : List Table) (x : Bool) → last_or f b (or_else l (choose x (t ∷ []) [])) ≡ last_or f (choose x (f t) b) l
    go [] true = refl
    go [] false = refl
    go (y ∷ ys) x = refl
