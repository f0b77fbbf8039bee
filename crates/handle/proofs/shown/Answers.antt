-- Each way out is the definition's by the tests that led there.
use native.Mathlib.Nat.{add-sub_cancel_left}
use borrow.Author.Tests.{le-leb, lt-leb}
use Rattle.format.specs.Handle.{shown}
use Rattle.handle.proofs.shown.Goals as goal

pub returns-then-bytes-size : goal.returns-then-bytes-size
unfolding shown
returns-then-bytes-size c = simp (lt-leb _ _ c.if-bytes-size.true)

pub returns-then-size-to : goal.returns-then-size-to
unfolding shown
returns-then-size-to c = simp (le-leb _ _ c.if-bytes-size.false, lt-leb _ _ c.if-size-to.true)

pub returns : goal.returns
unfolding shown
returns c = simp (le-leb _ _ c.if-bytes-size.false, le-leb _ _ c.if-size-to.false, add-sub_cancel_left)
