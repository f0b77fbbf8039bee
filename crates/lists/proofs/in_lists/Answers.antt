-- By the tests, in their order.
use Prim.Native.Nat.{◌≤◌, ◌<◌}
use Rattle.std.proofs.Common.{⊎_elim}
use native.Mathlib.Omega.{arith}
use borrow.Author.Tests.{lt-ltb, le-ltb, le-leb, lt-leb}
use Rattle.format.proofs.Theorems.Kinds.{one_of-eight}
use Rattle.lists.proofs.in_lists.Goals as goal

pub returns-then-c-provider : goal.returns-then-c-provider
returns-then-c-provider c = simp (le-ltb _ _ c.if-c-provider.true)

pub returns-in_default : goal.returns-in_default
returns-in_default c =
    ⊎_elim
    (λ (a : c.args.kind < 1). simp (lt-ltb _ _ c.if-c-provider.false, lt-leb _ _ a))
    (λ (a : 8 < c.args.kind). let b : 1 ≤ c.args.kind = omega arith in simp (lt-ltb _ _ c.if-c-provider.false, le-leb _ _ b, lt-leb _ _ a))
    c.in_default.ensures

pub returns : goal.returns
returns c =
    let k = one_of-eight c.in-Some.kind in
    rw (← c.in-Some.ensures) (simp (lt-ltb _ _ c.if-c-provider.false, le-leb _ _ k.0, le-leb _ _ k.1, c.row.ensures.0, c.list_of-list.ensures))
