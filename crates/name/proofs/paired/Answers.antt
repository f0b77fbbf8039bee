-- Each return rewrites the definition's test by the comparisons that led there.
use borrow.Author.Tests.{lt-ltb, le-ltb, lt-leb, le-leb}
use Rattle.name.proofs.paired.Goals as goal

pub returns-then-unit-ge56320 : goal.returns-then-unit-ge56320
returns-then-unit-ge56320 c = rw (← c.requires.1, le-ltb _ _ c.if-unit-ge56320.true)

pub returns-then-left-le1 : goal.returns-then-left-le1
returns-then-left-le1 c = rw (← c.requires.1, lt-ltb _ _ c.if-unit-ge56320.false, le-ltb _ _ c.if-left-le1.true)

pub returns-then-next-lt56320 : goal.returns-then-next-lt56320
returns-then-next-lt56320 c =
    rw (← c.requires.1, lt-ltb _ _ c.if-unit-ge56320.false, lt-ltb _ _ c.if-left-le1.false, ← c.half-next.ensures, lt-leb _ _ c.if-next-lt56320.true)

pub returns : goal.returns
returns c =
    rw (← c.requires.1, lt-ltb _ _ c.if-unit-ge56320.false, lt-ltb _ _ c.if-left-le1.false, ← c.half-next.ensures, le-leb _ _ c.if-next-lt56320.false)
