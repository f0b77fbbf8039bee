-- What is left decides: the rest, laid from here, makes the area what it shall be; no event is refused.
use Prim.Native.Nat.{◌+◌, ◌-◌, ◌*◌}
use mathlib.Core.Path.{◌≡◌}
use Rattle.blob.proofs.Laws.{rest}
use Rattle.format.specs.Area.{EVENTS, width}
use Rattle.format.specs.Definition.{step}
use Rattle.format.specs.Event.{event_at}
use Rattle.format.specs.Lists.{event_words}
use Rattle.event.proofs.fill_events.Given as goal

abbrev pub invariant-loop-i : goal.invariant-loop-i
invariant-loop-i l =
    rest event_at (step 48) event_words l.b l.initial.area l.n l.at 0 ≡ rest event_at (step 48) event_words l.b l.area (l.n - l.i) (l.at + 48 * l.i) (width EVENTS * l.i)
