-- Each unit of the sum is one that was read.
use mathlib.Core.Path.{ap, ◌∙◌}
use borrow.Author.Tests.{lt-leb, le-leb}
use Rattle.name.specs.Text.{below}
use Rattle.name.proofs.four.Goals as goal

pub returns-then-left-lt4 : goal.returns-then-left-lt4
returns-then-left-lt4 c = rw (lt-leb _ _ c.if-left-lt4.true)

pub returns : goal.returns
returns c =
    rw (
      le-leb _ _ c.if-left-lt4.false,
      c.less-first.ensures.0 ∙ ap below c.half.ensures,
      c.less-second.ensures.0 ∙ ap below c.half-2.ensures,
      c.less-third.ensures.0 ∙ ap below c.half-3.ensures,
      c.less-fourth.ensures.0 ∙ ap below c.half-4.ensures,
    )
