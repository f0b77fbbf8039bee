-- Each test of the offset is the definition's own.
use borrow.Author.Tests.{eq-eqb, ne_eqb, lt-ltb, le-ltb, le-leb, lt-leb}
use Rattle.template.proofs.items_of.Goals as goal

pub returns-then-offset-eq0 : goal.returns-then-offset-eq0
returns-then-offset-eq0 c = rw (eq-eqb _ _ c.if-offset-eq0.true)

pub returns-then-offset-temp : goal.returns-then-offset-temp
returns-then-offset-temp c = rw (ne_eqb _ _ c.if-offset-eq0.false, lt-ltb _ _ c.if-offset-temp.true)

pub returns-then-from-size : goal.returns-then-from-size
returns-then-from-size c =
    rw (ne_eqb _ _ c.if-offset-eq0.false, le-ltb _ _ c.if-offset-temp.false, le-leb _ _ c.if-from-size.true)

pub returns : goal.returns
returns c =
    rw (ne_eqb _ _ c.if-offset-eq0.false, le-ltb _ _ c.if-offset-temp.false, lt-leb _ _ c.if-from-size.false)
