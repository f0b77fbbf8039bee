-- The bytes before this one say `value`; those from it on, times `scale`, say what is missing of the number.
use Rattle.std.proofs.Common.{arith}
use Rattle.number.proofs.Scan.{reading_all, reading_some, reading_ends, reading_goes}
use Rattle.number.proofs.read.Goals as goal

pub loop-at-init : goal.loop-at-init
loop-at-init c = reading_all _ _ c.requires

pub bounds-bytes-i : goal.bounds-bytes-i
bounds-bytes-i c = reading_some c.loop-at.invariant

pub overflow_mul-result : goal.overflow_mul-result
overflow_mul-result c = let e = reading_ends c.loop-at.invariant c.if-byte-lt128.true in omega (arith, e.0)

pub overflow_add-result : goal.overflow_add-result
overflow_add-result c = let e = reading_ends c.loop-at.invariant c.if-byte-lt128.true in omega (arith, e.0)

pub overflow_add-result-then-byte-lt128 : goal.overflow_add-result-then-byte-lt128
overflow_add-result-then-byte-lt128 c = let b = reading_some c.loop-at.invariant in omega (arith, b)

pub returns-then-byte-lt128 : goal.returns-then-byte-lt128
returns-then-byte-lt128 c = (reading_ends c.loop-at.invariant c.if-byte-lt128.true).1

pub overflow_mul-value : goal.overflow_mul-value
overflow_mul-value c = let g = reading_goes c.loop-at.invariant c.if-byte-lt128.false in omega (arith, g.0)

pub overflow_add-value : goal.overflow_add-value
overflow_add-value c = let g = reading_goes c.loop-at.invariant c.if-byte-lt128.false in omega (arith, g.0)

pub overflow_mul-scale : goal.overflow_mul-scale
overflow_mul-scale c = let g = reading_goes c.loop-at.invariant c.if-byte-lt128.false in omega (arith, g.1)

pub loop-at-preserved : goal.loop-at-preserved
loop-at-preserved c = (reading_goes c.loop-at.invariant c.if-byte-lt128.false).2
