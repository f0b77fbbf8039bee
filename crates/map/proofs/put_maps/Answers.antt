-- The invariant: what is left decides. The maps that are left, laid from here, make the area what it shall be, and are fine.
use mathlib.Core.Path.{refl, sym, ap, ◌∙◌}
use Prim.Native.Nat.{◌+◌, ◌-◌, ◌*◌, ◌≤◌, ◌<◌}
use mathlib.Core.Path.{◌≡◌}
use native.Mathlib.Omega.{arith}
use Rattle.format.specs.Area.{MAPS, width}
use Rattle.blob.specs.Laid.{flat}
use Rattle.blob.proofs.Laws.{fill_none, not_refused, one_on}
use Rattle.format.specs.Definition.{step}
use Rattle.format.specs.Lists.{map_list}
use Rattle.map.specs.Listed.{listed_at}
use Rattle.format.specs.Map.{map_read}
use Rattle.map.specs.Next.{maps_words, count_none, never_refused, next-fine, next-count, next-maps}
use Rattle.map.proofs.put_maps.Goals as goal

pub unwrap-m-requires : goal.unwrap-m-requires
unwrap-m-requires c = rw c.listed_at.ensures (not_refused _ _ (λ r e. never_refused _ _ _ _ _ _ (omega arith) r (sym (ap map_read e)) c.loop-i.invariant.0))

pub overflow_add-entries : goal.overflow_add-entries
overflow_add-entries c =
    omega
    (arith, c.loop-i.invariant.1, c.requires.b_bound, next-count _ _ _ _ _ _ (omega arith) (omega arith) _ (sym c.unwrap-m.ensures ∙ c.listed_at.ensures) c.loop-i.invariant.0)

pub loop-i-preserved : goal.loop-i-preserved
loop-i-preserved c =
    let inv = c.loop-i.invariant in
    let more : 0 < c.args.n - c.loop-i.i = omega arith in
    let i = c.requires.end_in_bounds.0 in
    let f = sym c.unwrap-m.ensures ∙ c.listed_at.ensures in
    let e = one_on c.args.n c.loop-i.i c.args.start 4 in
    let to : width MAPS * c.loop-i.i + width MAPS ≡ width MAPS * (c.loop-i.i + 1) = omega arith in
    rw (← e.0, ← e.1, ← to) (
      next-fine _ _ _ _ _ _ more i _ f inv.0,
      omega (arith, inv.1, next-count _ _ _ _ _ _ more i _ f inv.0),
      inv.2 ∙ next-maps _ _ _ _ _ _ more i _ f inv.0 _ _ _ _ c.put_map.ensures,
    )

pub returns : goal.returns
unfolding flat map_list
returns c =
    let none : c.args.n - c.loop-i.i ≤ 0 = omega arith in record { value = omega (arith, rw count_none at c.loop-i.invariant.1); area_after = sym (c.loop-i.invariant.2 ∙ fill_none (listed_at _ _ _) (step 4) (maps_words _) _ _ _ _ _ refl none) }
