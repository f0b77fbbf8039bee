use mathlib.Core.Path.{sym, ◌∙◌}
use Rattle.blob.specs.Reading.{done}
use Rattle.event.specs.Events.{event-found}
use Rattle.event.proofs.event_at.Goals as goal

pub returns : goal.returns
returns c =
    event-found _ _
    ∙ sym (λ i. done (record {
      identifier = c.half.ensures i;
      version = c.byte.ensures i;
      channel = c.byte-2.ensures i;
      level = c.byte-3.ensures i;
      opcode = c.byte-4.ensures i;
      task = c.half-2.ensures i;
      low = c.word.ensures i;
      high = c.word-2.ensures i;
      message = c.word-3.ensures i;
      template = c.word-4.ensures i;
      opcode_offset = c.word-5.ensures i;
      level_offset = c.word-6.ensures i;
      task_offset = c.word-7.ensures i;
      unknown_count = c.word-8.ensures i;
      unknown_offset = c.word-9.ensures i;
      flags = c.word-10.ensures i;
    }))
