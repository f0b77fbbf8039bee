-- CHAN, KEYW, LEVL, OPCO, TASK: one entry type for all five.
-- "stored fields in `types.rs` order" (tables); "Fields a kind lacks .. are 0" (the lists).
use Rattle.std.specs.Prelude.{ℕ, ◌+◌, List, [], ◌∷◌, get_or, eqb}
use Rattle.blob.specs.Reading.{Reading, got, choose, ◌>>=◌, number, many}
use Rattle.format.specs.Field.{CHAN_name, KEYW_data, LEVL_data, OPCO_data, TASK_data}
use Rattle.format.specs.Region.{blob_end}
use Rattle.format.specs.Name.{name_at, absent}
use Rattle.format.specs.Table.{CHAN, KEYW, TASK, table_end, header_length, stride}
use Rattle.format.specs.declared.Header.{Header}
use Rattle.format.specs.declared.Name.{Name}
use Rattle.format.specs.declared.Guid.{Guid}
use Rattle.format.specs.declared.Definition.{Definition}

-- "GUID words are its 16 bytes as little-endian words." (the lists)
unfoldable pub guid_at : ℕ → Reading Guid
guid_at at =
    number 4 at >>= λ a. number 4 (at + 4) >>= λ b. number 4 (at + 8) >>= λ c. number 4 (at + 12) >>= λ d.
    got (record { a = a; b = b; c = c; d = d })

abbrev none : Guid
none = record { a = 0; b = 0; c = 0; d = 0 }

-- a record's own fields, by kind; the name is still to be read
-- CHAN: identifier, name offset, unknown, message
unfoldable pub channel_fields : ℕ → Reading Definition
channel_fields at =
    number 4 at >>= λ low. number 4 (at + 4) >>= λ offset. number 4 (at + 8) >>= λ unknown. number 4 (at + 12) >>= λ message.
    got (record { kind = CHAN; low = low; high = 0; message = message; offset = offset; name = absent; unknown = unknown; mui = none })

-- KEYW: identifier (8 bytes), message, name offset
unfoldable pub keyword_fields : ℕ → Reading Definition
keyword_fields at =
    number 4 at >>= λ low. number 4 (at + 4) >>= λ high. number 4 (at + 8) >>= λ message. number 4 (at + 12) >>= λ offset.
    got (record { kind = KEYW; low = low; high = high; message = message; offset = offset; name = absent; unknown = 0; mui = none })

-- TASK: identifier, message, mui (16 bytes), name offset
unfoldable pub task_fields : ℕ → Reading Definition
task_fields at =
    number 4 at >>= λ low. number 4 (at + 4) >>= λ message. guid_at (at + 8) >>= λ mui. number 4 (at + 24) >>= λ offset.
    got (record { kind = TASK; low = low; high = 0; message = message; offset = offset; name = absent; unknown = 0; mui = mui })

-- LEVL and OPCO: identifier, message, name offset
unfoldable pub plain_fields : ℕ → ℕ → Reading Definition
plain_fields k at =
    number 4 at >>= λ low. number 4 (at + 4) >>= λ message. number 4 (at + 8) >>= λ offset.
    got (record { kind = k; low = low; high = 0; message = message; offset = offset; name = absent; unknown = 0; mui = none })

-- the closure of the original's `parse_table` is this case by kind
unfoldable pub fields_at : ℕ → ℕ → Reading Definition
fields_at k at =
    choose (eqb k CHAN) (channel_fields at) (choose (eqb k KEYW) (keyword_fields at) (choose (eqb k TASK) (task_fields at) (plain_fields k at)))

-- the field of a kind's names
abbrev pub name_field : ℕ → ℕ
name_field k = get_or (0 ∷ CHAN_name ∷ 0 ∷ KEYW_data ∷ LEVL_data ∷ 0 ∷ OPCO_data ∷ TASK_data ∷ 0 ∷ []) k 0

-- a definition with its name
abbrev pub named : Definition → Name → Definition
named d n =
    record {
      kind = d.kind;
      low = d.low;
      high = d.high;
      message = d.message;
      offset = d.offset;
      name = n;
      unknown = d.unknown;
      mui = d.mui;
    }

-- a record, and then its name
unfoldable pub definition_at : ℕ → ℕ → Reading Definition
definition_at k at = fields_at k at >>= λ d. name_at blob_end (name_field k) d.offset >>= λ n. got (named d n)

-- records of one length stand in a row
abbrev pub step : {A : Type 0} → ℕ → A → ℕ → ℕ
step n a at = at + n

unfoldable pub definitions_at : ℕ → ℕ → Header → Reading (List Definition)
definitions_at k at h = table_end k at h >>= λ e. many (definition_at k) (step (stride k)) h.count (at + header_length k)
