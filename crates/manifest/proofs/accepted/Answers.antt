-- 7, then 8, then what the header and the block behind it give.
use mathlib.Core.Path.{refl, ap, sym, ◌∙◌}
use native.Mathlib.Omega.{arith}
use lib.ListN.{length-take}
use Rattle.std.specs.Prelude.{Err}
use Rattle.blob.specs.Reading.{run}
use Rattle.blob.proofs.Laws.{answer-refused, handed_on}
use Rattle.format.specs.Crim.{header}
use Rattle.format.specs.Answer.{held}
use Rattle.manifest.specs.Read.{read_as, too_long, unlent, no_header, headed, is_header, no-header_read, sized}
use Rattle.manifest.proofs.accepted.Goals as goal

pub returns-then-bytes-gt-LONGEST : goal.returns-then-bytes-gt-LONGEST
unfolding held
returns-then-bytes-gt-LONGEST c =
    let x = too_long c.args.bytes.now c.args.words.now c.args.capacities c.if-bytes-gt-LONGEST.true in
    record { value = answer-refused _ Err _ _ _ c.own.ensures x; words_after = sym (ap (held _ _) x) }

pub returns-then-not-lent_enough : goal.returns-then-not-lent_enough
unfolding held
returns-then-not-lent_enough c =
    let x = unlent c.args.bytes.now c.args.words.now c.args.capacities (omega (arith, c.if-bytes-gt-LONGEST.false)) (sym c.lent_enough.ensures ∙ c.if-not-lent_enough.true) in
    record { value = answer-refused _ Err _ _ _ c.own-then-not-lent_enough.ensures x; words_after = sym (ap (held _ _) x) }

pub slice_bounds-read_block-end : goal.slice_bounds-read_block-end
slice_bounds-read_block-end c =
    let z = sized c.args.bytes.now _ (is_header (run header c.args.bytes.now) _ c.in_ok-h.ensures) in
    simp length-take (omega (arith, z.lent))

pub read_block-requires : goal.read_block-requires
read_block-requires c =
    let z = sized c.args.bytes.now _ (is_header (run header c.args.bytes.now) _ c.in_ok-h.ensures) in (
      simp length-take (omega (arith, z.lent, z.least)),
      simp length-take (omega (arith, c.if-bytes-gt-LONGEST.false)),
      sym c.lent_enough.ensures ∙ c.if-not-lent_enough.false,
    )

pub returns-in_err-h : goal.returns-in_err-h
unfolding held
returns-in_err-h c =
    let x = no_header c.args.bytes.now c.args.words.now c.args.capacities (omega (arith, c.if-bytes-gt-LONGEST.false)) (sym c.lent_enough.ensures ∙ c.if-not-lent_enough.false) _ (no-header_read (run header c.args.bytes.now) _ c.in_err-h.ensures) in
    record { value = handed_on c.from_residual.ensures.1 (answer-refused _ Err _ _ _ refl x); words_after = sym (ap (held _ _) x) }

pub returns : goal.returns
returns c =
    let x = headed c.args.bytes.now c.args.words.now c.args.capacities (omega (arith, c.if-bytes-gt-LONGEST.false)) (sym c.lent_enough.ensures ∙ c.if-not-lent_enough.false) _ (is_header (run header c.args.bytes.now) _ c.in_ok-h.ensures) in
    record { value = c.read_block.ensures.value ∙ ap read_as (sym x); words_after = c.read_block.ensures.words_after ∙ ap (held _ _) (sym x) }
