-- A call that misfits is refused.
use Rattle.std.proofs.Common.{sym, ◌∙◌, ne_eqb}
use Rattle.format.specs.Call.{called_needs}
use Rattle.ducatfeather.specs.Laws.{misfit-needs}
use Rattle.ducatfeather.proofs.needs.Goals as goal

pub returns : goal.returns
unfolding called_needs
returns c = rw (ne_eqb _ _ c.if-n-eq-NUMBERS.false) (c.refusal.ensures ∙ sym (misfit-needs c.args.blob.now))
