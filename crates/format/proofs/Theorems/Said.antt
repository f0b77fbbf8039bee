-- An answer's equation and what the answer tells are the same thing: a result is the answer for an outcome exactly where it tells that
-- outcome, and with it the code, field, place and numbers. Once for every result, and a line for each.
use Prim.{tt}
use Rattle.std.specs.Prelude.{ℕ, suc, ◌+◌, ◌≡◌, refl, ◌↔◌, Bool, true, false, ◌&&◌, List, [], ◌∷◌, length, take, drop, leb, Result, Ok, Err, Option, Some, None}
use Rattle.std.proofs.Common.{ap, sym, ◌∙◌}
use Rattle.blob.specs.declared.Refusal.{Refusal}
use Rattle.blob.specs.Reading.{Outcome, done, refused, choose, then, answer, as_result, verdict}
use Rattle.format.specs.Area.{TEMPLATES, of}
use Rattle.format.specs.Answer.{own, lent_enough, capped}
use Rattle.format.specs.Lookup.{entries_of, counts_fit, position, numbered, by_offset, guids_found}
use Rattle.format.specs.Says.{told, template_told}
use Rattle.format.specs as format
use Rattle.format.proofs.Theorems.Grows.{choose-either}

-- a result is the answer for an outcome exactly where it tells that outcome, or what it keeps of it
abbrev pub Exactly : {A R : Type 0} → (R → Outcome A) → (Outcome A → R) → Type 0
Exactly {A} {R} told read = (r : R) (o : Outcome A) → (r ≡ read o) ↔ (told r ≡ o)

abbrev pub Keeps : {A B R : Type 0} → (R → Outcome A) → (B → A) → (Outcome B → R) → Type 0
Keeps {A} {B} {R} told kept read = (r : R) (o : Outcome B) → (r ≡ read o) ↔ (told r ≡ then o (λ b. done (kept b)))

-- once for every answer of two cases, f for a value and g for a refusal
module _ {A R : Type 0} (told : R → Outcome A) where
  pub exactly : {f : A → R} {g : Refusal → R} → ((a : A) → told (f a) ≡ done a) → ((q : Refusal) → told (g q) ≡ refused q) → ((r : R) → r ≡ answer f g (told r)) → Exactly told (answer f g)
  exactly {f} {g} value refusal back r (done a) = (λ e. ap told e ∙ value a, λ e. back r ∙ ap (answer f g) e)
  exactly {f} {g} value refusal back r (refused q) = (λ e. ap told e ∙ refusal q, λ e. back r ∙ ap (answer f g) e)

  pub keeps : {B : Type 0} (kept : B → A) (f : A → R) {g : Refusal → R} → Exactly told (answer f g) → Keeps told kept (answer (λ b. f (kept b)) g)
  unfolding then
  keeps kept f h r (done b) = h r (done (kept b))
  keeps kept f h r (refused q) = h r (refused q)

-- and so for every result
told-back : {A : Type 0} (r : Result A Refusal) → r ≡ as_result (λ a. a) (told r)
told-back (Ok a) = refl
told-back (Err q) = refl

result-exactly : {A : Type 0} → Exactly {A = A} told (as_result (λ a. a))
result-exactly = exactly told (λ a. refl) (λ q. refl) told-back

result-keeps : {A B : Type 0} (kept : B → A) → Keeps told kept (as_result kept)
result-keeps kept = keeps told kept Ok result-exactly

pub record Enums : Type 1 where
  pub verdict : {A : Type 0} → Keeps told (λ (a : A). tt) verdict
  pub header : Exactly told format.Table.header_read
  pub crim : Exactly told format.Crim.crim_read
  pub wevt : Exactly told format.Provider.wevt_read
  pub end : {A : Type 0} (place : A → ℕ) → Keeps told place (format.Region.end_read place)
  pub map : Keeps told (λ m. m.map) format.Map.map_read
  pub counted : {A : Type 0} (count : A → ℕ) → Keeps told (λ a. capped (count a)) (format.Steps.Needs.count_read count)
  pub guids : Keeps told (λ gs. length gs) guids_found

pub enums : Enums
enums =
    record {
      verdict = result-keeps (λ a. tt);
      header = result-exactly;
      crim = result-exactly;
      wevt = result-exactly;
      end = λ place. result-keeps place;
      map = result-keeps (λ m. m.map);
      counted = λ count. result-keeps (λ a. capped (count a));
      guids = result-keeps (λ gs. length gs);
    }

-- the lookup by offset: the number of one template or of none, 10 or 8
number-told : (p : format.Lists.Entry → Bool) (n : ℕ) (ts : List format.Lists.Entry) → template_told (numbered (position p n ts)) ≡ done (position p n ts)
unfolding position
number-told p n [] = refl
number-told p n (t ∷ ts) = choose-either (p t) (λ ns. template_told (numbered ns) ≡ done ns) refl (number-told p (suc n) ts)

offset-by : (a b : Bool) (ns : List ℕ) → template_told (numbered ns) ≡ done ns → template_told (choose a (choose b (numbered ns) (Err (own 10))) (Err (own 8)))
    ≡ choose a (choose b (done ns) (refused (own 10))) (refused (own 8))
offset-by true true ns h = h
offset-by true false ns h = refl
offset-by false b ns h = refl

pub offset-told : (words capacities counts : List ℕ) (provider first count offset : ℕ) → template_told (by_offset words capacities counts provider first count offset)
    ≡ choose (lent_enough capacities words)
    (choose (counts_fit counts capacities && leb (first + count) (of TEMPLATES counts))
    (done (position (format.Lookup.matches provider offset) first (take count (drop first (entries_of words capacities counts TEMPLATES)))))
    (refused (own 10)))
    (refused (own 8))
unfolding by_offset
offset-told words capacities counts provider first count offset =
    offset-by (lent_enough capacities words) (counts_fit counts capacities && leb (first + count) (of TEMPLATES counts)) _ (number-told (format.Lookup.matches provider offset) first (take count (drop first (entries_of words capacities counts TEMPLATES))))

found_back : (r : Result (Option ℕ) Refusal) → r ≡ answer numbered Err (template_told r)
found_back (Ok None) = refl
found_back (Ok (Some n)) = refl
found_back (Err q) = refl

pub found-exactly : (r found : Result (Option ℕ) Refusal) → (r ≡ found) ↔ (template_told r ≡ template_told found)
found-exactly r found = (λ e. ap template_told e, λ e. found_back r ∙ ap (answer numbered Err) e ∙ sym (found_back found))
