-- EVNT's records: the 15 fields of the original's `EventDefinition` in order, keywords as low then high. "stored fields in `types.rs`
-- order" (tables). "Offset words in events: 0 means absent." (the lists): they stand raw.
use Rattle.std.specs.Prelude.{ℕ, ◌+◌}
use Rattle.blob.specs.Reading.{Reading, got, ◌>>=◌, number}
use Rattle.format.specs.declared.Event.{Event}

unfoldable pub event_at : ℕ → Reading Event
event_at at =
    number 2 at >>= λ identifier. number 1 (at + 2) >>= λ version. number 1 (at + 3) >>= λ channel. number 1 (at + 4) >>= λ level.
    number 1 (at + 5) >>= λ opcode. number 2 (at + 6) >>= λ task. number 4 (at + 8) >>= λ low. number 4 (at + 12) >>= λ high.
    number 4 (at + 16) >>= λ message. number 4 (at + 20) >>= λ template. number 4 (at + 24) >>= λ opcode-offset. number 4 (at + 28) >>= λ level-offset.
    number 4 (at + 32) >>= λ task-offset. number 4 (at + 36) >>= λ unknown-count. number 4 (at + 40) >>= λ unknown-offset. number 4 (at + 44) >>= λ flags.
    got (record { identifier = identifier; version = version; channel = channel; level = level; opcode = opcode; task = task; low = low; high = high; message = message; template = template; opcode_offset = opcode-offset; level_offset = level-offset; task_offset = task-offset; unknown_count = unknown-count; unknown_offset = unknown-offset; flags = flags })
