-- CRIM: "signature (tested at once), size, two u16 versions, provider count; read field by field, all before size is tested. Size under
-- 16, or over the lent length, is 3 at 0. Only the first size bytes are the blob." (layouts)
use Rattle.std.specs.Prelude.{ℕ, ◌+◌, ◌*◌, List, take, leb, eqb, Result}
use Rattle.blob.specs.declared.Refusal.{Refusal}
use Rattle.blob.specs.Reading.{Reading, got, room, Outcome, done, demand, run, then, ◌>>=◌, number, many, as_result}
use Rattle.format.specs.Field.{CRIM_signature, CRIM_size, CRIM_major_version, CRIM_minor_version, CRIM_provider_count, CRIM_provider_descriptor_array}
use Rattle.format.specs.Refuse.{whole, wrong_signature, size_out}
use Rattle.format.specs.Definition.{guid_at, step}
use Rattle.format.specs.Provider.{Provider, provider_at}
use Rattle.format.specs.declared.CrimHeader.{CrimHeader}

-- `CRIM` as a little-endian number
abbrev pub CRIM : ℕ
CRIM = 0x4D495243

pub record Crim : Type 0 where
  pub header : CrimHeader
  pub providers : List Provider

unfoldable pub header : Reading CrimHeader
header =
    whole CRIM_signature 0 4 (
    number 4 0 >>= λ found.
    demand (eqb found CRIM) (wrong_signature 0 CRIM found) (
    whole CRIM_size 4 4 (number 4 4 >>= λ size.
    whole CRIM_major_version 8 2 (number 2 8 >>= λ major.
    whole CRIM_minor_version 10 2 (number 2 10 >>= λ minor.
    whole CRIM_provider_count 12 4 (number 4 12 >>= λ count.
    demand (leb 16 size) (size_out CRIM_size 0 size) (
    room size (size_out CRIM_size 0 size) (
    got (record { size = size; major = major; minor = minor; count = count })))))))))

-- what the code answers for the header
abbrev pub crim_read : Outcome CrimHeader → Result CrimHeader Refusal
crim_read o = as_result (λ h. h) o

-- "20 bytes per provider from byte 16 (GUID, offset ..), each provider finished before the next is read"
unfoldable pub described_at : ℕ → Reading Provider
described_at at = guid_at at >>= λ guid. number 4 (at + 16) >>= λ offset. provider_at guid offset

-- ".. the array must fit whole, else 1"
unfoldable pub providers_of : CrimHeader → Reading (List Provider)
providers_of h = whole CRIM_provider_descriptor_array 16 (20 * h.count) (many described_at (step 20) h.count 16)

-- the header is read over the lent bytes, the rest over the first size of them
unfoldable pub crim : List ℕ → Outcome Crim
crim lent = then (run header lent) (λ h. then (run (providers_of h) (take h.size lent)) (λ ps. done (record { header = h; providers = ps })))
