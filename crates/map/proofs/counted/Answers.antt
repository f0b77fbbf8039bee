-- What is left decides: the answer for the maps that are left, with the entries so far, is that for all.
use Prim.Native.Nat.{◌-◌}
use mathlib.Core.Path.{◌≡◌, ap, sym, ◌∙◌}
use native.Mathlib.Omega.{arith}
use native.Mathlib.Nat.{add-zero}
use borrow.Author.Rules.{rules}
use Rattle.blob.proofs.Laws.{handed_on, many-refused, many-empty, one_on}
use Rattle.format.specs.Definition.{step}
use Rattle.format.proofs.Theorems.Counting.{counted-all, counted_none}
use Rattle.map.specs.Decides.{is_refused}
use Rattle.map.specs.Listed.{listed_at}
use Rattle.map.specs.Next.{unread, counted_from, next-counted}
use Rattle.map.proofs.counted.Goals as goal

pub loop-i-init : goal.loop-i-init
loop-i-init c =
    let all : c.args.n - 0 ≡ c.args.n = omega arith in
    (search rules, rw (all, add-zero) (counted-all _ (unread _ _ _ _ _ _)))

pub returns-in_err-m : goal.returns-in_err-m
returns-in_err-m c =
    handed_on c.from_residual.ensures.1
    (sym (c.loop-i.invariant.1
    ∙ ap (counted_from _) (many-refused (listed_at _ _ _) (step 4) _ _ _ _ (omega arith) (is_refused _ _ c.in_err-m.ensures))))

pub loop-i-preserved : goal.loop-i-preserved
loop-i-preserved c =
    let e = one_on c.args.n c.loop-i.i c.args.start 4 in (
      omega arith,
      rw (← e.0, ← e.1) (c.loop-i.invariant.1 ∙ next-counted _ _ _ _ _ _ (omega arith) (omega arith) _ c.in_ok-m.ensures _ _ c.sum-entries.ensures),
    )

pub returns : goal.returns
returns c =
    sym (c.loop-i.invariant.1
    ∙ ap (counted_from _) (many-empty (listed_at _ _ _) (step 4) _ _ _ (omega arith))
    ∙ counted_none _ _ c.loop-i.invariant.0)
