-- By what was found of the table's end.
use mathlib.Core.Path.{ap, sym}
use Rattle.blob.proofs.Laws.{handed_on}
use Rattle.format.specs.Steps.Needs.{table_read}
use Rattle.element.specs.Checked.{events-refused, events-found}
use Rattle.element.proofs.check_events.Goals as goal

pub returns-in_err-table_end : goal.returns-in_err-table_end
returns-in_err-table_end c =
    handed_on c.from_residual.ensures.1 (sym (ap table_read (events-refused _ _ _ _ c.in_err-table_end.ensures)))

pub returns : goal.returns
returns c = sym (events-found _ _ _ _ c.in_ok-table_end.ensures)
