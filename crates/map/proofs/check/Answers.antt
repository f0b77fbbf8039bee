-- The region's end, the room for the offsets, and the row of maps, by the laws of Listed.
use Rattle.std.specs.Prelude.{Err}
use mathlib.Core.Path.{ap, sym, ◌∙◌}
use native.Mathlib.Omega.{arith}
use Rattle.blob.proofs.Laws.{handed_on}
use Rattle.format.specs.Steps.Needs.{maps_read}
use Rattle.format.proofs.Theorems.Ends.{region-bounds}
use Rattle.map.specs.Listed.{maps-refused, maps-cut, maps-listed}
use borrow.Author.Rules.{rules}
use Rattle.map.proofs.check.Goals as goal

pub returns-then-b-at : goal.returns-then-b-at
returns-then-b-at c =
    ap Err c.size_out.ensures
    ∙ sym (ap maps_read (maps-cut _ _ _ _ c.in_ok-end.ensures (omega arith) (omega arith)))

pub counted-requires : goal.counted-requires
counted-requires c =
    ((region-bounds _ _ _ 16 _ (search rules) _ c.in_ok-end.ensures).1, search rules, search rules)

pub returns-in_err-end : goal.returns-in_err-end
returns-in_err-end c =
    handed_on c.from_residual.ensures.1 (sym (ap maps_read (maps-refused _ _ _ _ c.in_err-end.ensures)))

pub returns : goal.returns
returns c =
    c.counted.ensures
    ∙ sym (ap maps_read (maps-listed _ _ _ _ c.in_ok-end.ensures (omega arith)))
