-- The answer, codes 1 to 6: what a refusal says, and the two tests that most of the format asks for.
-- "Code | Given when | Place, numbers" (the answer). What 1 to 6 tell goes by the length that bytes are cut short at, or that an
-- offset is past: the blob's, where no rule says another.
use Rattle.std.specs.Prelude.{ℕ, ◌+◌, ◌-◌}
use Rattle.blob.specs.declared.Refusal.{Refusal}
use Rattle.blob.specs.Reading.{Fault, Reading, room}

-- "0 | accepted | 0; .. (other calls 0, 0)"
abbrev pub fine : Refusal
fine = record { code = 0; field = 0; place = 0; first = 0; second = 0 }

-- "1 | Truncated | offset; need, have (0 when the offset is past the end)"
abbrev pub truncated : ℕ → ℕ → ℕ → Fault
truncated f at needed = record { told = λ n. record { code = 1; field = f; place = at; first = needed; second = n - at } }

-- "2 | wrong signature | offset; expected, found as little-endian numbers"; "codes 0, 2 and 7 upward have field 0"
abbrev pub wrong_signature : ℕ → ℕ → ℕ → Fault
wrong_signature at expected found = record { told = λ n. record { code = 2; field = 0; place = at; first = expected; second = found } }

-- "3 | SizeOutOfBounds | offset; size, 0"
abbrev pub size_out : ℕ → ℕ → ℕ → Fault
size_out f at size = record { told = λ n. record { code = 3; field = f; place = at; first = size; second = 0 } }

-- "4 | count refused | offset of the count; count, 0"
abbrev pub count_out : ℕ → ℕ → ℕ → Fault
count_out f at count = record { told = λ n. record { code = 4; field = f; place = at; first = count; second = 0 } }

-- "5 | OffsetOutOfBounds | offset; length, 0"
abbrev pub offset_out : ℕ → ℕ → Fault
offset_out f at = record { told = λ n. record { code = 5; field = f; place = at; first = n; second = 0 } }

-- "6 | InvalidUtf16String | offset of the sized name; 0, 0"
abbrev pub not_utf16 : ℕ → ℕ → Fault
not_utf16 f at = record { told = λ n. record { code = 6; field = f; place = at; first = 0; second = 0 } }

-- go on where so many bytes from a place on are wholly in the blob; "cut short 1"
abbrev pub whole : {A : Type 0} → ℕ → ℕ → ℕ → Reading A → Reading A
whole f at needed k = room (at + needed) (truncated f at needed) k

-- go on where a place is not past the blob; "a place past the blob 5"
abbrev pub within : {A : Type 0} → ℕ → ℕ → Reading A → Reading A
within f at k = room at (offset_out f at) k
