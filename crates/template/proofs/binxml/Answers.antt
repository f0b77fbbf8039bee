-- Each test of the offset is the definition's own.
use native.Mathlib.Omega.{arith}
use borrow.Author.Tests.{eq-eqb, ne_eqb}
use Rattle.template.proofs.binxml.Goals as goal

pub returns-then-offset-eq0 : goal.returns-then-offset-eq0
returns-then-offset-eq0 c = rw (eq-eqb _ _ c.if-offset-eq0.true)

pub returns-then-offset-start : goal.returns-then-offset-start
returns-then-offset-start c = rw (ne_eqb _ _ c.if-offset-eq0.false) (omega arith)

pub returns : goal.returns
returns c = rw (ne_eqb _ _ c.if-offset-eq0.false)
