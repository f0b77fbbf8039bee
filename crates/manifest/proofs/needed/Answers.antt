-- 7, then what the header, the providers and their needs give.
use Prim.Native.Nat.{ℕ, ◌+◌, ◌*◌}
use mathlib.Core.Path.{refl, ap, ◌∙◌}
use mathlib.Core.List.{List}
use native.Mathlib.Omega.{arith}
use lib.ListN.{length-take}
use Rattle.std.specs.Prelude.{Ok, Err}
use Rattle.blob.specs.Reading.{run}
use Rattle.blob.proofs.Laws.{answer-refused, handed_on, result_found, result_refused}
use Rattle.format.specs.Answer.{answer, needing}
use Rattle.format.specs.Crim.{header}
use Rattle.format.proofs.Theorems.Needed.{needed}
use Rattle.manifest.specs.Read.{block-long, block-headless, block-headed, block_refused, block-done, is_header, no-header_read, sized}
use Rattle.manifest.proofs.needed.Goals as goal

pub returns-then-bytes-gt-LONGEST : goal.returns-then-bytes-gt-LONGEST
returns-then-bytes-gt-LONGEST c = answer-refused _ Err _ _ _ c.own.ensures (block-long c.args.bytes.now c.if-bytes-gt-LONGEST.true)

pub slice_bounds-check_block-end : goal.slice_bounds-check_block-end
slice_bounds-check_block-end c =
    let z = sized c.args.bytes.now _ (is_header (run header c.args.bytes.now) _ c.in_ok-h.ensures) in
    simp length-take (omega (arith, z.lent))

pub check_block-requires : goal.check_block-requires
check_block-requires c =
    let z = sized c.args.bytes.now _ (is_header (run header c.args.bytes.now) _ c.in_ok-h.ensures) in
    (simp length-take (omega (arith, z.lent, z.least)), simp length-take (omega (arith, c.if-bytes-gt-LONGEST.false)))

pub returns-in_err-h : goal.returns-in_err-h
returns-in_err-h c =
    handed_on c.from_residual.ensures.1
    (answer-refused _ Err _ _ _ refl (block-headless c.args.bytes.now (omega (arith, c.if-bytes-gt-LONGEST.false)) _ (no-header_read (run header c.args.bytes.now) _ c.in_err-h.ensures)))

pub returns-in_err-needs : goal.returns-in_err-needs
returns-in_err-needs c =
    let x = block-headed c.args.bytes.now (omega (arith, c.if-bytes-gt-LONGEST.false)) _ (is_header (run header c.args.bytes.now) _ c.in_ok-h.ensures) in
    handed_on c.from_residual-in_err-needs.ensures.1 (answer-refused _ Err _ _ _ refl (x ∙ block_refused _ _ _ (result_refused _ _ _ c.in_err-needs.ensures)))

pub returns : goal.returns
unfolding needing answer
returns c =
    let x = block-headed c.args.bytes.now (omega (arith, c.if-bytes-gt-LONGEST.false)) _ (is_header (run header c.args.bytes.now) _ c.in_ok-h.ensures) in
    let p = result_found _ _ _ c.in_ok-needs.ensures in
    rw (x, block-done _ _ p.0 p.1)
    (ap Ok (c.accept.ensures ∙ ap (λ (n : List ℕ). record { code = 0; field = 0; place = 0; first = c.in_ok-h.h.size; second = c.in_ok-h.h.major + 65536 * c.in_ok-h.h.minor; counts = n }) (p.2 ∙ needed p.0)))
