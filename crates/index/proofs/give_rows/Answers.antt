-- What is left to give decides.
use Rattle.std.proofs.Common.{◌≡◌, ◌+◌, ◌-◌, arith}
use Rattle.index.proofs.ReadLaws.{rows_of-room, rows-left_none, rows-left_stand, rows-left_more}
use Rattle.index.proofs.give_rows.Goals as goal

pub give_row-place-requires : goal.give_row-place-requires
give_row-place-requires c =
    let m = rows_of-room _ _ _ _ _ _ c.requires in
    rows-left_stand c.loop-i.invariant (omega (arith, m)) (omega arith)

pub loop-i-preserved : goal.loop-i-preserved
loop-i-preserved c =
    let n : c.args.n - c.loop-i.i - 1 ≡ c.args.n - (c.loop-i.i + 1) = omega arith in
    rw n at (rows-left_more c.loop-i.invariant (omega arith) c.give_row-place.ensures)

pub returns : goal.returns
returns c = let n = rows-left_none c.loop-i.invariant (omega arith) in record { place = n.0; kept = n.1 }
