-- The event's words, one by one.
use mathlib.Core.Path.{sym}
use Rattle.indexer.specs.Event.{entry-words}
use Rattle.indexer.proofs.entry_of.Goals as goal

pub returns : goal.returns
returns c = sym (entry-words c.args.words.now c.args.at c.requires c.args.provider)
