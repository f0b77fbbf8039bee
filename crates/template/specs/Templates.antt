-- TEMPs one after another: the first of those that are fine, how many turns they take, and what the region's end makes of all.
use Prim.{Unit, tt}
use Prim.Native.Nat.{ℕ, suc, ◌+◌, ◌-◌, ◌*◌, ◌≤◌, ◌<◌}
use Rattle.std.specs.Prelude.{◌≡◌, List, map, Bool, true, false, length, eqb, Ok, Err}
use Rattle.std.proofs.Math.Path.{refl, ap}
use Rattle.std.proofs.Common.{sym, ◌∙◌}
use native.Mathlib.Omega.{arith}
use borrow.Author.Tests.{eq-eqb, ne_eqb}
use Rattle.blob.specs.declared.Refusal.{Refusal}
use Rattle.blob.specs.Le.{le}
use Rattle.blob.specs.Reading.{refused, choose, many, run, verdict, values}
use Rattle.blob.proofs.Laws.{many-first, many-same, values-more, fill_more, length-flat}
use Rattle.blob.specs.Laid.{laid, flat, flat_append, flat_map}
use Rattle.format.specs.Field.{table_size}
use Rattle.format.specs.Region.{until, end, region_at, end_read}
use Rattle.format.specs.Table.{TTBL}
use Rattle.format.specs.Template.{Template, template_at, next, templates_at}
use Rattle.format.specs.Area.{ITEMS, width}
use Rattle.format.specs.Lists.{item_words, item_list}
use Rattle.format.specs.Steps.Needs.{total, item_count}
use Rattle.format.proofs.Theorems.Ends.{region-bounds}
use Rattle.format.proofs.Theorems.Until.{template_until, region-told, region-refused}
use Rattle.format.specs.declared.Header.{Header}
use Rattle.template.specs.Temp.{Fine, items_of_temp, fine-template, fine-count}

-- the first of some that are fine is one
pub first_fine : (e left at : ℕ) (s : List ℕ) (size : ℕ) → size ≡ le 4 s (at + 4) → 0 < left → verdict (run (many (template_at (until e)) next left at) s) ≡ Ok tt
    → Fine e at size s
first_fine e left at s size es h v = fine-template e at s size es (many-first _ next left at s h v)

-- what the items of the first one make of those that are left: their number, and their words
module _ (e left at : ℕ) (s : List ℕ) (size : ℕ) (es : size ≡ le 4 s (at + 4)) (h : 0 < left) (v : verdict (run (many (template_at (until e)) next left at) s) ≡ Ok tt) where
  abbrev all : List Template
  all = values (run (many (template_at (until e)) next left at) s)

  abbrev others : List Template
  others = values (run (many (template_at (until e)) next (left - 1) (at + size)) s)

  abbrev one : Fine e at size s
  one = first_fine e left at s size es h v

  pub next-items : item_count all ≡ le 4 s (at + 8) + item_count others
  unfolding total
  next-items = ap item_count (values-more (template_at (until e)) next left at s _ h one.found v) ∙ ap (λ n. n + item_count others) (fine-count e at s size es one)

  pub next-words : (n : ℕ) (area area' : List ℕ) (to : ℕ) → area' ≡ laid area to (flat (item_words n) (values (items_of_temp s at size)))
      → laid area to (flat (λ e. e) (item_list n all)) ≡ laid area' (to + width ITEMS * le 4 s (at + 8)) (flat (λ e. e) (item_list (n + 1) others))
  unfolding item_list
  next-words n area area' to q =
      let m : n + 1 ≡ suc n = omega arith in
      rw m (fill_more (template_at (until e)) next (λ ts. flat (λ e. e) (item_list n ts)) (λ ts. flat (λ e. e) (item_list (suc n) ts)) (flat (item_words n) one.items) s area area' left at to _
      (λ ts. flat_append (λ e. e) (map (item_words n) one.items) (item_list (suc n) ts) ∙ rw (flat_map (λ e. e) (item_words n) one.items))
      (q ∙ ap (λ o. laid area to (flat (item_words n) (values o))) one.listed) h one.found v
      ∙ rw (length-flat (item_words n) (width ITEMS) (λ i. refl) one.items, fine-count e at s size es one))

one-most : (t : Bool) → choose t 0 1 < 2
one-most true = omega arith
one-most false = omega arith

-- at most two turns for each TEMP that is left: one more where the size is not the one before
module _ (s : List ℕ) where
  unfoldable pub turns : (at left same : ℕ) → ℕ
  turns at left same = 2 * left + choose (eqb (le 4 s (at + 4)) same) 0 1

  pub turns-again : (at left same size : ℕ) → size ≡ le 4 s (at + 4) → (size ≡ same → ⊥) → turns at left size < turns at left same
  unfolding turns
  turns-again at left same size e d = rw (sym e) (rw (eq-eqb size size refl, ne_eqb _ _ d) (omega arith))

  pub turns_next : (at next left same size : ℕ) → 0 < left → turns next (left - 1) size < turns at left same
  unfolding turns
  turns_next at next left same size h = omega (arith, one-most (eqb (le 4 s (next + 4)) size))

-- the TEMPs of a TTBL are those until the end that the code was told
module _ (at : ℕ) (h : Header) (s : List ℕ) where
  pub templates-told : (e : ℕ) → Ok e ≡ end_read (end (length s)) (run (region_at (table_size TTBL) at h.size 12) s)
      → run (templates_at at h) s ≡ run (many (template_at (until e)) next h.count (at + 12)) s
  unfolding templates_at
  templates-told e g = region-told _ _ s e (λ region. many-same _ _ next (λ p. Unit {0}) s (λ p u. template_until region p s) (λ a p u. tt) h.count (at + 12) tt) g

  pub templates-refused : (x : Refusal) → Err x ≡ end_read (end (length s)) (run (region_at (table_size TTBL) at h.size 12) s)
      → run (templates_at at h) s ≡ refused x
  unfolding templates_at
  templates-refused x g = region-refused _ _ s x g

-- a region's end, with its TEMPs those of the table
pub record Ends (at : ℕ) (h : Header) (s : List ℕ) (e : ℕ) : Type 0 where
  pub behind : at + 12 ≤ e
  pub inside : e ≤ length s
  pub told : run (templates_at at h) s ≡ run (many (template_at (until e)) next h.count (at + 12)) s

pub ends_there : (at : ℕ) (h : Header) (s : List ℕ) (e : ℕ) → at + 12 ≤ length s → Ok e ≡ end_read (end (length s)) (run (region_at (table_size TTBL) at h.size 12) s) → Ends at h s e
ends_there at h s e w g =
    let b = region-bounds _ _ _ 12 _ w _ g in
    record { behind = b.0; inside = b.1; told = templates-told at h s e g }
