-- The array fits the TEMP or not; where it does, its items decide.
use Rattle.std.specs.Prelude.{Err}
use mathlib.Core.Path.{ap, sym, ◌∙◌}
use native.Mathlib.Omega.{arith}
use Rattle.blob.specs.Reading.{verdict}
use Rattle.item.specs.Items.{start_fits, items-row, items-past}
use Rattle.item.proofs.check.Goals as goal

pub overflow_sub-end : goal.overflow_sub-end
overflow_sub-end c = let o = c in omega (arith, c.items_start-start.ensures, start_fits o.args.end o.args.offset o.requires.0)

pub returns-then-end-start : goal.returns-then-end-start
returns-then-end-start c =
    let e = c.items_start-start.ensures in
    let f = start_fits c.args.end c.args.offset c.requires.0 in
    ap Err (rw e at c.truncated.ensures) ∙ sym (ap verdict (items-past _ _ c.args.n c.args.offset _ (omega (arith, e, f))))

pub check_row-requires : goal.check_row-requires
check_row-requires c =
    let f = start_fits c.args.end c.args.offset c.requires.0 in
    (omega (arith, c.items_start-start.ensures, f), c.requires.1, c.requires.2)

pub returns : goal.returns
returns c =
    let e = c.items_start-start.ensures in
    let f = start_fits c.args.end c.args.offset c.requires.0 in
    (rw e at c.check_row.ensures) ∙ sym (ap verdict (items-row _ _ c.args.n c.args.offset _ (omega (arith, e, f))))
