-- What is left decides: the rest, laid from here, makes the area what it shall be; no event is refused.
use mathlib.Core.Path.{sym, ◌∙◌}
use native.Mathlib.Omega.{arith}
use Rattle.blob.proofs.Laws.{rest-next, rest-none}
use Rattle.format.specs.Definition.{step}
use Rattle.format.specs.Event.{event_at}
use Rattle.format.specs.Lists.{event_words}
use Rattle.event.specs.Events.{events-fine}
use Rattle.event.proofs.fill_events.Goals as goal

pub loop-i-preserved : goal.loop-i-preserved
loop-i-preserved c =
    c.loop-i.invariant ∙ rest-next event_at (step 48) event_words _ _ _ _ _ _ _ _ _ _ c.put_event.ensures (omega arith) c.event_at.ensures (events-fine _ _ _) (omega arith) (omega arith)

pub returns : goal.returns
returns c = sym (c.loop-i.invariant ∙ rest-none event_at (step 48) event_words _ _ _ _ _ (omega arith))
