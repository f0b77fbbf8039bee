-- The definition's two tests, of the least size and of the room, are the code's; the end fits where there is room.
use Rattle.std.specs.Prelude.{◌+◌, length}
use Rattle.std.proofs.Common.{arith, sym, ◌∙◌}
use borrow.Author.Tests.{le-leb, lt-leb, leb-true}
use Rattle.blob.specs.Reading.{run, demand}
use Rattle.format.specs.Region.{bounded}
use Rattle.bounds.proofs.bounded.Goals as goal
use Rattle.bounds.proofs.bounded.Goals.{then-least-size+else-has_room, else-least-size}

pub overflow_add-result : goal.overflow_add-result
overflow_add-result c =
    let a = c.args in
    omega (arith, leb-true (a.at + a.size) (length a.b.now) (sym c.has_room.ensures ∙ c.if-has_room.true))

pub returns-then-has_room : goal.returns-then-has_room
unfolding run demand bounded
returns-then-has_room c = rw (le-leb _ _ c.if-least-size.true, sym c.has_room.ensures ∙ c.if-has_room.true)

pub returns : goal.returns
unfolding run demand bounded
returns c =
    elim c.if-least-size.branch [
      | then-least-size+else-has_room w ↦ rw (le-leb _ _ w.if-least-size.true, sym w.has_room.ensures ∙ w.if-has_room.false, c.size_out.ensures)
      | else-least-size w ↦ rw (lt-leb _ _ w.if-least-size.false, c.size_out.ensures)
    ]
