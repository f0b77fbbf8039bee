-- Each return cites the law of the test that led there.
use mathlib.Core.Path.{ap, sym, ◌∙◌}
use native.Mathlib.Omega.{arith}
use Rattle.blob.specs.Reading.{verdict}
use Rattle.name.specs.Sized.{refuses, sized_past, sized-cut, sized-small, sized-short, sized-odd, sized-text}
use Rattle.name.proofs.check_sized.Goals as goal

pub returns-then-end-at : goal.returns-then-end-at
returns-then-end-at c = refuses _ _ _ _ _ _ c.offset_out.ensures (sized_past _ _ _ _ (omega arith))

pub returns-then-room-lt4 : goal.returns-then-room-lt4
returns-then-room-lt4 c = refuses _ _ _ _ _ _ c.truncated.ensures (sized-cut _ _ _ _ (omega arith) (omega arith))

pub returns-then-size-lt4 : goal.returns-then-size-lt4
returns-then-size-lt4 c =
    refuses _ _ _ _ _ _ c.size_out.ensures (sized-small _ _ _ _ _ c.word-size.ensures (omega arith) (omega arith))

pub returns-then-room-needed : goal.returns-then-room-needed
returns-then-room-needed c =
    refuses _ _ _ _ _ _ c.truncated-then-room-needed.ensures (sized-short _ _ _ _ _ c.word-size.ensures (omega arith) (omega arith) (omega arith))

pub returns-then-size-ne0 : goal.returns-then-size-ne0
returns-then-size-ne0 c =
    refuses _ _ _ _ _ _ c.not_utf16.ensures
    (sized-odd _ _ _ _ _ c.word-size.ensures (omega arith) (omega arith) (omega arith) c.if-size-ne0.true)

pub returns-in-Some : goal.returns-in-Some
returns-in-Some c =
    sym (ap verdict (sized-text _ _ _ _ _ c.word-size.ensures (omega arith) (omega arith) (omega arith) c.if-size-ne0.false ∙ c.in-Some.ensures))

pub returns-in-None : goal.returns-in-None
returns-in-None c =
    refuses _ _ _ _ _ _ c.not_utf16-in-None.ensures
    (sized-text _ _ _ _ _ c.word-size.ensures (omega arith) (omega arith) (omega arith) c.if-size-ne0.false ∙ c.in-None.ensures)
