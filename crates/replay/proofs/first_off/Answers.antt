-- What is left of the two runs decides; what is compared at a place are the values of its items.
use Rattle.std.proofs.Common.{◌≡◌, ℕ, ◌+◌, ◌-◌, ◌<◌, List, length, map, get_or, arith, ap, sym, ◌∙◌}
use Rattle.std.proofs.lemmas.List.{get_or-map}
use Rattle.replay.specs.Off.{off}
use Rattle.replay.specs.Laws.{off-more, off-here, off-none}
use Rattle.replay.proofs.first_off.Goals as goal

module _ {X : Type 0} (v : X → ℕ) (xs ys : List X) (at : ℕ) (x y : X) (h : at < length xs) (k : at < length ys) (e : x ≡ get_or xs at x) (f : y ≡ get_or ys at y) where
  in_xs : get_or (map v xs) at 0 ≡ v x
  in_xs = get_or-map v xs at x 0 h ∙ ap v (sym e)

  in_ys : get_or (map v ys) at 0 ≡ v y
  in_ys = get_or-map v ys at y 0 k ∙ ap v (sym f)

  here : (v x ≡ v y → ⊥) → at ≡ off (map v xs) (map v ys) (length xs - at) at
  here d = off-here _ _ _ _ h (rw (in_xs, in_ys) d)

  more : v x ≡ v y → off (map v xs) (map v ys) (length xs - (at + 1)) (at + 1) ≡ off (map v xs) (map v ys) (length xs - at) at
  more d = off-more _ _ _ _ h (rw (in_xs, in_ys) d)

pub returns-then-wide : goal.returns-then-wide
returns-then-wide g c =
    here _ _ _ _ _ _ (omega arith) (omega arith) c.index-found-at.is c.index-right-at.is (rw (c.wide.ensures, c.wide-in-loop-at.ensures) at c.if-wide.true)
    ∙ c.loop-at.invariant

pub loop-at-preserved : goal.loop-at-preserved
loop-at-preserved g c =
    more _ _ _ _ _ _ (omega arith) (omega arith) c.index-found-at.is c.index-right-at.is (rw (c.wide.ensures, c.wide-in-loop-at.ensures) at c.if-wide.false)
    ∙ c.loop-at.invariant

pub returns : goal.returns
returns g c =
    let e : length c.args.found.now ≡ c.loop-at.at = omega arith in
    e ∙ sym (off-none _ _ _ c.loop-at.at (omega arith)) ∙ c.loop-at.invariant
