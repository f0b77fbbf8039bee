-- What an item that is fine is, and what its name and the array as a whole decide.
use Rattle.std.specs.Prelude.{ℕ, zero, suc, ◌+◌, ◌*◌, ◌^◌, ◌≤◌, ◌<◌, ◌≡◌, Bool, true, false, List, [], ◌∷◌, eqb, length, Ok}
use Rattle.std.proofs.Common.{zero-add, add-zero, suc-add, pow-suc, one-mul, mul_assoc, arith, ap, ◌∙◌}
use Rattle.std.proofs.Math.Nat.{pow-zero}
use Rattle.std.proofs.Math.Path.{refl, sym}
use mir.Val.{bool_byte}
use borrow.Author.Tests.{le-leb, lt-leb, leb-true}
use Rattle.blob.specs.Le.{le}
use Rattle.blob.specs.Reading.{Outcome, done, refused, choose, run, then, many, verdict}
use Rattle.blob.proofs.Laws.{same, fine-value, run_bind, run-number, run-got, run_holds, run-fails, many-none, many-count}
use Rattle.blob.proofs.Finds.{Finds, finds-got, finds-demand, finds_bind, finds-next}
use Rattle.format.specs.Field.{template_item_descriptors, template_item_name}
use Rattle.format.specs.Refuse.{truncated}
use Rattle.format.specs.Region.{until, inside}
use Rattle.format.specs.Name.{name_at}
use Rattle.format.specs.Definition.{step}
use Rattle.format.specs.Item.{Item, item_name_at, item_at, items_start, items_from}
use Rattle.format.specs.Lists.{item_words}
use Rattle.format.specs.declared.Name.{Name}
use Rattle.name.specs.Ended.{ended-cast}

-- two numbers one behind the other are one: the first is its low part
pub le_parts : (v w : ℕ) (s : List ℕ) (p : ℕ) → le (v + w) s p ≡ le v s p + 256 ^ v * le w s (p + v)
unfolding le
le_parts zero w s p = simp (zero-add, add-zero, pow-zero, one-mul)
le_parts (suc v) w s p =
    let e : p + 1 + v ≡ p + suc v = omega arith in
    simp (suc-add, le_parts v w s (p + 1), e, pow-suc, mul_assoc) (omega arith)

-- the item at a place, with its name
abbrev pub item_of : List ℕ → ℕ → Name → Item
item_of s at name =
    record {
      unknown1 = le 4 s at;
      input = le 1 s (at + 4);
      output = le 1 s (at + 5);
      unknown3 = le 2 s (at + 6);
      unknown4 = le 4 s (at + 8);
      count = le 2 s (at + 12);
      length = le 2 s (at + 14);
      offset = le 4 s (at + 16);
      name = name;
    }

module _ (temp e at : ℕ) (s : List ℕ) where
  -- an item is fine where its name is
  pub item_verdict : (offset : ℕ) → offset ≡ le 4 s (at + 16) → verdict (run (item_at temp e at) s) ≡ verdict (run (item_name_at temp e offset) s)
  unfolding item_at then
  item_verdict offset eo = simp (run-number, run_bind, sym eo, run-got) (go (run (item_name_at temp e offset) s) _)
    where
      go : (o : Outcome Name) (f : Name → Item) → verdict (then o (λ n. done (f n))) ≡ verdict o
      go (done n) f = refl
      go (refused r) f = refl

  item_found : Finds (item_at temp e at) s (λ i. (i ≡ item_of s at i.name) × (run (name_at (until e) template_item_name (le 4 s (at + 16))) s ≡ done i.name))
  unfolding item_at item_name_at
  item_found =
      finds-next 4 at (λ _ a. finds-next 1 (at + 4) (λ _ b. finds-next 1 (at + 5) (λ _ c. finds-next 2 (at + 6) (λ _ d. finds-next 4 (at + 8) (λ _ f. finds-next 2 (at + 12) (λ _ g.
      finds-next 2 (at + 14) (λ _ h. finds-next 4 (at + 16) (λ offset i. finds_bind (λ n. run (name_at (until e) template_item_name offset) s ≡ done n) (finds-demand _ _ (λ _. record { found = λ n k. k }))
      (λ n k. finds-got (rw (a, b, c, d, f, g, h, i), rw i at k))))))))))

  pub item_is : (i : Item) → run (item_at temp e at) s ≡ done i
      → (i ≡ item_of s at i.name) × (run (name_at (until e) template_item_name (le 4 s (at + 16))) s ≡ done i.name)
  item_is i = item_found.found i

  -- its words, with those that stand together
  pub item_words_lem : (number : ℕ) (i : Item) → run (item_at temp e at) s ≡ done i → (name : Name) → run (name_at (until e) template_item_name (le 4 s (at + 16))) s ≡ done name
      → item_words number i
      ≡ number ∷ le 4 s at ∷ le 2 s (at + 4) ∷ le 2 s (at + 6) ∷ le 4 s (at + 8) ∷ le 4 s (at + 12) ∷ le 4 s (at + 16) ∷ name.start ∷ name.units ∷ bool_byte name.ended ∷ []
  item_words_lem number i h name g =
      let x = item_is i h in
      let types : le 2 s (at + 4) ≡ le 1 s (at + 4) + 256 * le 1 s (at + 5) = le_parts 1 1 s (at + 4) ∙ ap (λ p. le 1 s (at + 4) + 256 * le 1 s p) (omega arith) in
      let range : le 4 s (at + 12) ≡ le 2 s (at + 12) + 65536 * le 2 s (at + 14) = le_parts 2 2 s (at + 12) ∙ ap (λ p. le 2 s (at + 12) + 65536 * le 2 s p) (omega arith) in
      rw (x.0, same _ _ (sym x.1 ∙ g), types, range, ended-cast name)

  pub name-fine : verdict (run (item_at temp e at) s) ≡ Ok tt → verdict (run (name_at (until e) template_item_name (le 4 s (at + 16))) s) ≡ Ok tt
  name-fine v = let i = fine-value _ v in ap verdict (item_is i.0 i.1).1

-- it starts in the TEMP where the items offset lies there
pub start_fits : (e offset : ℕ) → offset ≤ e → items_start e offset ≤ e
start_fits e offset h = go (eqb offset 0)
  where
    go : (t : Bool) → choose t e offset ≤ e
    go true = omega arith
    go false = h

-- the array, as a whole
module _ (temp e n offset : ℕ) (s : List ℕ) where
  pub items-row : items_start e offset + 20 * n ≤ e → run (items_from temp e n offset) s ≡ run (many (item_at temp e) (step 20) n (items_start e offset)) s
  unfolding items_from inside
  items-row h = run_holds _ _ _ _ (le-leb _ _ h)

  pub items-past : e < items_start e offset + 20 * n
      → run (items_from temp e n offset) s ≡ refused ((truncated template_item_descriptors (items_start e offset) (20 * n)).told e)
  unfolding items_from inside
  items-past h = run-fails _ _ _ _ (lt-leb _ _ h)

  pub items-fit : verdict (run (items_from temp e n offset) s) ≡ Ok tt → items_start e offset + 20 * n ≤ e
  unfolding items_from inside
  items-fit v = let f = fine-value _ v in within.found f.0 f.1
    where
      within : Finds (items_from temp e n offset) s (λ is. items_start e offset + 20 * n ≤ e)
      within = finds-demand _ _ (λ t. record { found = λ is k. leb-true _ _ t })

  -- so many as were asked for
  pub items-count : (is : List Item) → run (items_from temp e n offset) s ≡ done is → length is ≡ n
  items-count is h = many-count (item_at temp e) (step 20) n (items_start e offset) s is (sym (items-row (items-fit (ap verdict h))) ∙ h)

  -- where there are none, nothing is refused
  pub no_items : n ≡ 0 → offset ≤ e → verdict (run (items_from temp e n offset) s) ≡ Ok tt
  no_items z h = ap verdict (items-row (omega (arith, z, start_fits e offset h))) ∙ many-none (item_at temp e) (step 20) n (items_start e offset) s (omega arith)
