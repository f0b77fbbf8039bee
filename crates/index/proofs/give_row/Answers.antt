-- What is left to give decides.
use Rattle.std.proofs.Common.{arith}
use Rattle.index.proofs.ReadLaws.{row_of_room, row-left_none, row-left_stands, row-left_narrow, row-left_room, row-left_more}
use Rattle.index.proofs.give_row.Goals as goal

pub read-n-requires : goal.read-n-requires
read-n-requires c = row-left_stands _ c.loop-width.invariant c.loop-width-test.true

pub give_number-requires : goal.give_number-requires
give_number-requires c =
    let t = row-left_room _ c.loop-width.invariant c.loop-width-test.true c.read-n.ensures in
    let m = row_of_room _ _ _ _ _ c.requires in
    (row-left_narrow _ c.loop-width.invariant c.loop-width-test.true c.read-n.ensures, omega (arith, t, m))

pub loop-width-preserved : goal.loop-width-preserved
loop-width-preserved c =
    row-left_more _ c.loop-width.invariant c.loop-width-test.true c.read-n.ensures c.give_number.ensures.value c.give_number.ensures.words_after

pub returns : goal.returns
returns c = let n = row-left_none _ c.loop-width.invariant c.loop-width-test.false in record { place = n.0; kept = n.1 }
