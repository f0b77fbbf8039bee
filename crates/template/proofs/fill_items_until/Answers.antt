-- The invariant: what is left decides. The items of the rest, laid from here, make the area what it shall be, and the rest is fine.
use Prim.Native.Nat.{◌+◌, ◌-◌, ◌≤◌, ◌<◌}
use mathlib.Core.Path.{◌≡◌, refl, ap, sym, ◌∙◌}
use native.Mathlib.Omega.{arith}
use Rattle.blob.specs.Reading.{verdict}
use Rattle.blob.specs.Laid.{flat}
use Rattle.blob.proofs.Laws.{many_more, values-none, fill_none}
use Rattle.format.specs.Region.{until}
use Rattle.format.specs.Template.{template_at, next}
use Rattle.format.specs.Lists.{item_list}
use Rattle.format.specs.Steps.Needs.{total, item_count}
use Rattle.template.specs.Templates.{first_fine, next-items, next-words}
use Rattle.template.proofs.fill_items_until.Goals as goal

pub word-requires : goal.word-requires
word-requires c = let f = (first_fine _ _ _ _ _ refl (omega arith) c.loop-number.invariant.2).stands in omega arith

pub word-items-requires : goal.word-items-requires
word-items-requires c = let f = (first_fine _ _ _ _ _ refl (omega arith) c.loop-number.invariant.2).stands in omega arith

pub word-requires-in-loop-number : goal.word-requires-in-loop-number
word-requires-in-loop-number c = let f = (first_fine _ _ _ _ _ refl (omega arith) c.loop-number.invariant.2).stands in omega arith

pub fill-requires : goal.fill-requires
fill-requires c =
    let inv = c.loop-number.invariant in
    let more : 0 < c.args.first + c.args.n - c.loop-number.number = omega arith in
    let f = first_fine _ _ _ _ _ c.word.ensures more inv.2 in
    record {
      end_in_bounds = omega arith;
      b_value = rw (c.word-items.ensures, c.word-in-loop-number.ensures) (ap verdict f.listed);
      n_in_bounds = omega (arith, c.word-items.ensures, inv.1, c.requires.b_in_bounds, next-items _ _ _ _ _ c.word.ensures more inv.2);
    }

pub loop-number-preserved : goal.loop-number-preserved
loop-number-preserved c =
    let inv = c.loop-number.invariant in
    let left = c.args.first + c.args.n - c.loop-number.number in
    let more : 0 < left = omega arith in
    let less : left - 1 ≡ c.args.first + c.args.n - (c.loop-number.number + 1) = omega arith in
    let f = first_fine _ _ _ _ _ c.word.ensures more inv.2 in
    rw (← less) (
      f.stands.ends,
      omega (arith, c.word-items.ensures, inv.1, next-items _ _ _ _ _ c.word.ensures more inv.2),
      sym (many_more _ next _ _ _ _ more f.found) ∙ inv.2,
      inv.3 ∙ rw c.word-items.ensures (next-words _ _ _ _ _ c.word.ensures more inv.2 _ _ _ _ (rw (c.word-items.ensures, c.word-in-loop-number.ensures) at c.fill.ensures)),
    )

pub returns : goal.returns
unfolding total item_list flat
returns c =
    let none : c.args.first + c.args.n - c.loop-number.number ≤ 0 = omega arith in
    let e = ap item_count (values-none (template_at (until c.args.end)) next _ c.loop-number.at c.args.b.now none) in
    record { value = omega (arith, c.loop-number.invariant.1, e); area_after = sym (c.loop-number.invariant.3 ∙ fill_none (template_at (until _)) next (λ ts. flat (λ e. e) (item_list c.loop-number.number ts)) _ _ _ _ _ refl none) }
