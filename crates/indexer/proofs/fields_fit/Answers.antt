-- The event's words, one by one.
use mathlib.Core.Path.{sym, ◌∙◌}
use Rattle.indexer.specs.Event.{fields_fit_lem}
use Rattle.indexer.proofs.fields_fit.Goals as goal

pub returns : goal.returns
returns c =
    c.within.ensures ∙ sym (fields_fit_lem c.args.words.now c.args.at c.requires)
