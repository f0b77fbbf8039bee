-- What a reading of an event's record finds: it is never refused.
use Rattle.std.specs.Prelude.{ℕ, ◌+◌, ◌≡◌, List, Ok}
use Rattle.blob.specs.Le.{le}
use Rattle.blob.specs.Reading.{done, run, many, verdict}
use Rattle.blob.proofs.Laws.{run-number, many-fine}
use Rattle.format.specs.Definition.{step}
use Rattle.format.specs.Event.{event_at}
use Rattle.format.specs.declared.Event.{Event}

-- the event whose record stands at a place
abbrev pub event : List ℕ → ℕ → Event
event s at =
    record {
      identifier = le 2 s at;
      version = le 1 s (at + 2);
      channel = le 1 s (at + 3);
      level = le 1 s (at + 4);
      opcode = le 1 s (at + 5);
      task = le 2 s (at + 6);
      low = le 4 s (at + 8);
      high = le 4 s (at + 12);
      message = le 4 s (at + 16);
      template = le 4 s (at + 20);
      opcode_offset = le 4 s (at + 24);
      level_offset = le 4 s (at + 28);
      task_offset = le 4 s (at + 32);
      unknown_count = le 4 s (at + 36);
      unknown_offset = le 4 s (at + 40);
      flags = le 4 s (at + 44);
    }

pub event-found : (s : List ℕ) (at : ℕ) → run (event_at at) s ≡ done (event s at)
unfolding event_at run
event-found s at = simp run-number

pub events-fine : (s : List ℕ) (n at : ℕ) → verdict (run (many event_at (step 48) n at) s) ≡ Ok tt
events-fine s n at = many-fine event_at (step 48) s (λ p. (event s p, event-found s p)) n at
