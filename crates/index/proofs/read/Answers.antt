-- The test, the end, the room, the words.
use Rattle.blob.proofs.Laws.{handed}
use Rattle.index.proofs.ReadLaws.{read_refused, read_over, read_short, read_given, stands}
use Rattle.index.proofs.read.Goals as goal

pub returns-in_err-shape : goal.returns-in_err-shape
returns-in_err-shape c = rw (handed _ c.from_residual.ensures.1) (read_refused _ _ _ c.in_err-shape.ensures)

pub returns-then-shape-bytes : goal.returns-then-shape-bytes
returns-then-shape-bytes c = rw c.fault.ensures (read_over _ _ _ c.in_ok-shape.ensures c.if-shape-bytes.true)

pub returns-then-words-needed : goal.returns-then-words-needed
returns-then-words-needed c = rw c.short.ensures (read_short _ _ _ c.in_ok-shape.ensures c.if-shape-bytes.false c.if-words-needed.true)

pub give-requires : goal.give-requires
give-requires c = stands _ c.args.words.now _ c.in_ok-shape.ensures c.if-shape-bytes.false c.if-words-needed.false

pub returns : goal.returns
returns c = read_given _ _ _ c.in_ok-shape.ensures c.if-shape-bytes.false c.if-words-needed.false _ c.give.ensures
