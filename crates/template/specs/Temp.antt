-- What a TEMP that was read is: its words, and a size that ends in its region.
use Rattle.std.specs.Prelude.{ℕ, ◌+◌, ◌-◌, ◌≤◌, ◌≡◌, Bool, true, false, not, ◌||◌, leb, ltb, eqb, length, Ok, Err}
use Rattle.std.proofs.Math.Path.{refl, ap, sym}
use Rattle.std.proofs.Common.{◌∙◌, arith}
use mathlib.Core.List.{List}
use borrow.Author.Tests.{leb-true, eqb-true}
use Rattle.blob.specs.declared.Refusal.{Refusal}
use Rattle.blob.specs.Le.{le}
use Rattle.blob.specs.Reading.{Outcome, done, refused, choose, run, then, verdict}
use Rattle.blob.proofs.Laws.{never, same, fine-value, refused-value, run_bind, run-number, run-demand, run-got}
use Rattle.blob.proofs.Finds.{Finds, finds-got, finds-demand, finds_bind, finds-next}
use Rattle.words.specs.Guid.{guid-found}
use Rattle.format.specs.Region.{until, inside}
use Rattle.format.specs.Definition.{guid_at}
use Rattle.format.specs.Item.{Item, items_from}
use Rattle.item.specs.Items.{items-count}
use Rattle.format.specs.Template.{Template, blob_place, template_place, items_of, items_at, template_fields, template_at}
use Rattle.format.specs.declared.Guid.{Guid}
use Rattle.format.specs.declared.Items.{Items}
use Rattle.format.specs.declared.Items.TheVariants as items
use Rattle.format.specs.declared.TemplatePlace.{TemplatePlace}

-- "BinXML runs from TEMP byte 40 to the items", all counted from the blob's start
abbrev pub binxml_length : (start size offset : ℕ) → ℕ
binxml_length start size offset = choose (eqb offset 0) (size - 40) (offset - start)

abbrev guid_of : List ℕ → ℕ → Guid
guid_of s at = record { a = le 4 s at; b = le 4 s (at + 4); c = le 4 s (at + 8); d = le 4 s (at + 12) }

-- the TEMP of some size at a place, where it is fine, with its items
abbrev pub template_of : List ℕ → (at size : ℕ) → List Item → Template
template_of s at size is =
    record {
      offset = at;
      size = size;
      descriptors = le 4 s (at + 8);
      names = le 4 s (at + 12);
      items_offset = le 4 s (at + 16);
      event = le 4 s (at + 20);
      guid = guid_of s (at + 24);
      start = at + 40;
      length = binxml_length (at + 40) size (le 4 s (at + 16));
      items = is;
    }

-- the reading of the items of a TEMP of some size
abbrev pub items_of_temp : List ℕ → (at size : ℕ) → Outcome (List Item)
items_of_temp s at size = run (items_from at (at + size) (le 4 s (at + 8)) (le 4 s (at + 16))) s

pub guid-is : (at : ℕ) (s : List ℕ) (g : Guid) → run (guid_at at) s ≡ done g → g ≡ guid_of s at
guid-is at s g e = same _ _ (sym e ∙ guid-found at s)

-- items that stand in the TEMP end its BinXML, and their offset is not past its end
items-stand : (at size offset : ℕ) (s : List ℕ) (t : TemplatePlace) → run (items_at size (items_of (blob_place at) size (blob_place offset))) s ≡ done t
    → (t.0 - 40 ≡ binxml_length (at + 40) size offset) × (offset ≤ at + size)
unfolding run items_at
items-stand at size offset s t = go (eqb offset 0) (ltb offset at) (leb (offset - at) size) refl refl
  where
    go : (a b c : Bool) → eqb offset 0 ≡ a → leb (offset - at) size ≡ c
        → run (items_at size (choose a (items.At (template_place size)) (choose b (items.Before (blob_place offset)) (choose c (items.At (template_place (offset - at))) (items.Past (template_place (offset - at))))))) s ≡ done t
        → (t.0 - 40 ≡ choose a (size - 40) (offset - (at + 40))) × (offset ≤ at + size)
    go true b c x y e = (rw (sym (same _ _ e)), omega (arith, eqb-true offset 0 x))
    go false true c x y e = absurd (never _ _ e)
    go false false true x y e = (rw (sym (same _ _ e)) (omega arith), omega (arith, leb-true (offset - at) size y))
    go false false false x y e = absurd (never _ _ e)

-- where the counts are right, the items' place decides, and then the items
module _ (at size : ℕ) (s : List ℕ) (descriptors names offset : ℕ) (i : Items)
    (ed : descriptors ≡ le 4 s (at + 8)) (en : names ≡ le 4 s (at + 12)) (eo : offset ≡ le 4 s (at + 16)) (ei : i ≡ items_of (blob_place at) size (blob_place offset)) where
  pub items-inside : verdict (run (items_at size i) s) ≡ Ok tt → offset ≤ at + size
  items-inside v = let t = fine-value _ v in (items-stand at size offset s t.0 (ap (λ j. run (items_at size j) s) (sym ei) ∙ t.1)).1

  module _ (h : (not (eqb descriptors 0) || eqb names 0) ≡ true) where
    in_turn : verdict (run (template_fields at size) s) ≡ verdict (then (run (items_at size i) s) (λ t. run (items_from at (at + size) descriptors offset) s))
    unfolding then
    in_turn =
        simp (run-number, run_bind, guid-found, run-demand, sym ed, sym en, h, sym eo, sym ei, run-got)
        (go (run (items_at size i) s) (run (items_from at (at + size) descriptors offset) s) _)
      where
        go : (o : Outcome TemplatePlace) (p : Outcome (List Item)) (f : TemplatePlace → List Item → Template)
            → verdict (then o (λ t. then p (λ is. done (f t is)))) ≡ verdict (then o (λ t. p))
        go (done t) (done is) f = refl
        go (done t) (refused r) f = refl
        go (refused r) p f = refl

    pub fields_refused : (r : Refusal) → Err r ≡ verdict (run (items_at size i) s) → Err r ≡ verdict (run (template_fields at size) s)
    unfolding then
    fields_refused r v = sym (in_turn ∙ ap (λ o. verdict (then o (λ t. run (items_from at (at + size) descriptors offset) s))) (refused-value (run (items_at size i) s) r v))

    pub fields_items : verdict (run (items_at size i) s) ≡ Ok tt
        → verdict (run (template_fields at size) s) ≡ verdict (run (items_from at (at + size) descriptors offset) s)
    unfolding then
    fields_items v = in_turn ∙ ap (λ o. verdict (then o (λ t. run (items_from at (at + size) descriptors offset) s))) (fine-value (run (items_at size i) s) v).1

-- what a TEMP in a region has
pub record Stands (e at size : ℕ) : Type 0 where
  pub header : at + 40 ≤ e
  pub least : 40 ≤ size
  pub ends : at + size ≤ e

-- a TEMP that is fine, and its items
pub record Fine (e at size : ℕ) (s : List ℕ) : Type 0 where
  pub stands : Stands e at size
  pub items : List Item
  pub found : run (template_at (until e) at) s ≡ done (template_of s at size items)
  pub listed : items_of_temp s at size ≡ done items

module _ (e at : ℕ) (s : List ℕ) (size : ℕ) (es : size ≡ le 4 s (at + 4)) where
  template_found : Finds (template_at (until e) at) s (λ t. Stands e at size × (t ≡ template_of s at size t.items) × (items_of_temp s at size ≡ done t.items))
  unfolding template_at inside
  template_found =
      finds-demand _ _ (λ h. finds-next 4 at (λ _ _. finds-demand _ _ (λ _. finds-next 4 (at + 4) (λ found ef. finds-demand _ _ (λ l. finds-demand _ _ (λ w.
      finds-next 4 (at + 8) (λ n ed. finds-next 4 (at + 12) (λ _ en. finds-next 4 (at + 16) (λ offset eo. finds-next 4 (at + 20) (λ _ ee.
      finds_bind (λ g. g ≡ guid_of s (at + 24)) (record { found = guid-is (at + 24) s }) (λ _ eg. finds-demand _ _ (λ _.
      finds_bind (λ t. t.0 - 40 ≡ binxml_length (at + 40) found offset) (record { found = λ t x. (items-stand at found offset s t x).0 }) (λ _ el.
      finds_bind (λ is. run (items_from at (at + found) n offset) s ≡ done is) (record { found = λ is x. x }) (λ is ei.
      finds-got (rw (es ∙ sym ef) (record { header = leb-true _ _ h; least = leb-true _ _ l; ends = leb-true _ _ w }, cc, cc))))))))))))))))

  pub fine-template : verdict (run (template_at (until e) at) s) ≡ Ok tt → Fine e at size s
  fine-template v =
      let f = fine-value _ v in
      let g = template_found.found f.0 f.1 in
      record { stands = g.0; items = f.0.items; found = f.1 ∙ ap done g.1; listed = g.2 }

  -- it has as many as its header says
  pub fine-count : (f : Fine e at size s) → length f.items ≡ le 4 s (at + 8)
  fine-count f = items-count at (at + size) (le 4 s (at + 8)) (le 4 s (at + 16)) s f.items f.listed
