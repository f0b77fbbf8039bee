-- By what was found of the header.
use mathlib.Core.Path.{◌∙◌}
use native.Mathlib.Omega.{arith}
use Rattle.format.proofs.Theorems.Kinds.{one_of-eight}
use Rattle.blob.proofs.Laws.{handed_on}
use Rattle.element.specs.Checked.{checks_refused, checks_table, header-fits}
use Rattle.element.proofs.check_element.Goals as goal

pub returns-in_err-h : goal.returns-in_err-h
returns-in_err-h c = handed_on c.from_residual.ensures.1 (checks_refused _ _ _ (one_of-eight _).0 _ c.in_err-h.ensures)

pub check_table-requires : goal.check_table-requires
check_table-requires c = let f = header-fits _ _ _ (one_of-eight _).0 _ c.in_ok-h.ensures in omega arith

pub returns : goal.returns
returns c = c.check_table.ensures ∙ checks_table _ _ _ (one_of-eight _).0 _ c.in_ok-h.ensures
