-- What was passed is what is read.
use Rattle.blob.proofs.Laws.{handed, result_refused}
use Rattle.std.proofs.Common.{arith}
use Rattle.number.specs.Number.{WORD}
use Rattle.number.proofs.Scan.{read_fits}
use Rattle.index.proofs.ReadLaws.{passed_read, passed_stands}
use Rattle.index.proofs.word_at.Goals as goal

pub returns-in_err-pass : goal.returns-in_err-pass
returns-in_err-pass c = rw (handed _ c.from_residual.ensures.1, result_refused _ _ _ c.in_err-pass.ensures)

pub read-n-requires : goal.read-n-requires
read-n-requires c = passed_stands _ _ _ c.in_ok-pass.ensures

pub overflow_cast-result : goal.overflow_cast-result
overflow_cast-result c =
    let f = read_fits WORD _ _ c.read-n.result (passed_read _ _ _ _ c.in_ok-pass.ensures c.read-n.ensures) in
    omega (arith, f)

pub returns : goal.returns
returns c = rw (passed_read _ _ _ _ c.in_ok-pass.ensures c.read-n.ensures)
