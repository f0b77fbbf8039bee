use Rattle.blob.proofs.Laws.{handed, result_found, result_refused}
use Rattle.std.proofs.Common.{sym}
use Rattle.index.proofs.ReadLaws.{was_word, counted_none, counted-stops, counted-goes}
use Rattle.index.proofs.pass_counted.Goals as goal

pub returns-in_err-count : goal.returns-in_err-count
returns-in_err-count c = rw (handed _ c.from_residual.ensures.1, counted_none _ _ _ _ (result_refused _ _ _ c.in_err-count.ensures))

pub returns-in_err-behind : goal.returns-in_err-behind
returns-in_err-behind c =
    let n = was_word _ _ c.in_ok-count.ensures in
    rw (handed _ c.from_residual-in_err-behind.ensures.1, counted-stops _ _ _ n.0 _ _ n.1 n.2 n.3 _ (result_refused _ _ _ c.in_err-behind.ensures))

pub returns : goal.returns
returns c =
    let n = was_word _ _ c.in_ok-count.ensures in
    let r = result_found _ _ _ c.in_ok-behind.ensures in
    sym (counted-goes _ _ _ n.0 _ _ n.1 n.2 n.3 r.0 _ r.1 (sym r.2))
