-- The invariant: what is left decides. The entries of the maps that are left, laid from here, make the area what it shall be.
use mathlib.Core.Path.{refl, sym, ap, ◌∙◌}
use Prim.Native.Nat.{◌-◌, ◌≤◌, ◌<◌}
use native.Mathlib.Omega.{arith}
use Rattle.blob.specs.Laid.{flat}
use Rattle.blob.proofs.Laws.{fill_none, not_refused, one_on}
use Rattle.format.specs.Definition.{step}
use Rattle.map.specs.Listed.{listed_at}
use Rattle.format.specs.Map.{map_read}
use Rattle.map.specs.Next.{entries_words, count_none, never_refused, next-inside, next-fine, next-count, next-entries}
use Rattle.map.proofs.put_map_entries.Goals as goal

pub unwrap-m-requires : goal.unwrap-m-requires
unwrap-m-requires c = rw c.listed_at.ensures (not_refused _ _ (λ r e. never_refused _ _ _ _ _ _ (omega arith) r (sym (ap map_read e)) c.loop-i.invariant.1))

pub put_entries-requires : goal.put_entries-requires
put_entries-requires c =
    let more : 0 < c.args.n - c.loop-i.i = omega arith in
    let i = c.requires.end_in_bounds.0 in
    let f = sym c.unwrap-m.ensures ∙ c.listed_at.ensures in
    (next-inside _ _ _ _ _ _ more i _ f, omega (arith, next-count _ _ _ _ _ _ more i _ f c.loop-i.invariant.1))

pub loop-i-preserved : goal.loop-i-preserved
loop-i-preserved c =
    let inv = c.loop-i.invariant in
    let more : 0 < c.args.n - c.loop-i.i = omega arith in
    let i = c.requires.end_in_bounds.0 in
    let f = sym c.unwrap-m.ensures ∙ c.listed_at.ensures in
    let e = one_on c.args.n c.loop-i.i c.args.start 4 in
    rw (← e.0, ← e.1) (
      omega (arith, inv.0, next-count _ _ _ _ _ _ more i _ f inv.1),
      next-fine _ _ _ _ _ _ more i _ f inv.1,
      inv.2 ∙ next-entries _ _ _ _ _ _ more i _ f inv.1 _ _ _ c.put_entries.ensures,
    )

pub returns : goal.returns
unfolding flat
returns c =
    let none : c.args.n - c.loop-i.i ≤ 0 = omega arith in record { value = omega (arith, rw count_none at c.loop-i.invariant.0); area_after = sym (c.loop-i.invariant.2 ∙ fill_none (listed_at _ _ _) (step 4) entries_words _ _ _ _ _ refl none) }
