-- Four words, or none.
use mathlib.Core.Path.{sym}
use native.Mathlib.Omega.{arith}
use borrow.Author.Tests.{ne_eqb}
use Rattle.blob.specs.Laid.{laid}
use Rattle.format.specs.Table.{kind_of}
use Rattle.format.proofs.Theorems.Kinds.{one_of-eight}
use Rattle.fillers.proofs.put_unknown.Goals as goal

pub word-size-requires : goal.word-size-requires
word-size-requires c =
    let r = c.requires (sym c.in-None.ensures) in
    omega (arith, r.0)

pub put-requires : goal.put-requires
put-requires c =
    let r = c.requires (sym c.in-None.ensures) in
    r.1

pub overflow_add-result : goal.overflow_add-result
overflow_add-result c =
    let r = c.requires (sym c.in-None.ensures) in
    omega (arith, r.1)

pub returns-in-Some : goal.returns-in-Some
unfolding laid
returns-in-Some c =
    let e = ne_eqb (kind_of c.args.d.signature) 0 (λ z. omega (arith, (one_of-eight c.in-Some.field-0).0, c.in-Some.ensures, z)) in
    record { value = rw e; area_after = rw e }
