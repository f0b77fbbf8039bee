-- What is left decides: the bytes from here on, with what the width leaves for them.
use Rattle.std.proofs.Common.{◌≡◌, ◌+◌, ◌-◌, sym, ◌∙◌, arith}
use Rattle.number.specs.Number.{LONGEST}
use Rattle.number.proofs.Scan.{scans, scan-over, scan-out, scan-last, scan-more}
use Rattle.number.proofs.pass.Goals as goal

pub loop-k-init : goal.loop-k-init
loop-k-init c =
    let i : c.args.at + 0 ≡ c.args.at = omega arith in
    record { inside = λ h. omega arith; decides = rw i (scans _ _ _ c.requires) }

pub returns-then-bytes-i : goal.returns-then-bytes-i
returns-then-bytes-i c = sym (c.loop-k.invariant.decides ∙ scan-out _ _ _ _ _ (omega arith) c.if-bytes-i.true)

pub returns-then-last : goal.returns-then-last
returns-then-last c =
    sym (c.loop-k.invariant.decides ∙ scan-last _ _ _ _ _ (omega arith) c.if-bytes-i.false c.if-byte-lt128.true ∙ rw (sym c.last.ensures ∙ c.if-last.true))

pub returns-then-byte-lt128 : goal.returns-then-byte-lt128
returns-then-byte-lt128 c =
    sym (c.loop-k.invariant.decides ∙ scan-last _ _ _ _ _ (omega arith) c.if-bytes-i.false c.if-byte-lt128.true ∙ rw (sym c.last.ensures ∙ c.if-last.false))

pub loop-k-preserved : goal.loop-k-preserved
loop-k-preserved c =
    let i : c.args.at + c.loop-k.k + 1 ≡ c.args.at + (c.loop-k.k + 1) = omega arith in
    let n : LONGEST - c.loop-k.k - 1 ≡ LONGEST - (c.loop-k.k + 1) = omega arith in
    record { inside = λ h. omega arith; decides = c.loop-k.invariant.decides ∙ scan-more _ _ _ _ _ (omega arith) c.if-bytes-i.false c.if-byte-lt128.false ∙ rw (i, n) }

pub returns : goal.returns
returns c = sym (c.loop-k.invariant.decides ∙ scan-over _ _ _ _ _ (omega arith))
