-- Regions: where the bytes of a TTBL or a MAPS end, the items of a TEMP, and the names in a TEMP or a blob.
-- "size 0 ends the region at the blob end" (TTBL); "region as for TTBL, minimum 16" (MAPS); "Otherwise size under the header or
-- past the blob is 3" (tables).
use Rattle.std.specs.Prelude.{ℕ, ◌+◌, leb, eqb, Result}
use Rattle.blob.specs.declared.Refusal.{Refusal}
use Rattle.blob.specs.Reading.{Fault, Reading, got, room, Outcome, choose, demand, ◌>>=◌, as_result}
use Rattle.format.specs.Refuse.{size_out}

pub data Region : Type 0 where
  blob_end : Region
  until : ℕ → Region

-- where it ends, in a blob of n bytes
abbrev pub end : ℕ → Region → ℕ
end n blob_end = n
end n (until e) = e

-- what is told against the region's end, not the blob's
abbrev pub against : Region → Fault → Fault
against region r = record { told = λ n. r.told (end n region) }

-- go on where a place is not past the region's end, against which the refusal is told
unfoldable pub inside : {A : Type 0} → Region → ℕ → Fault → Reading A → Reading A
inside blob_end p r k = room p r k
inside (until e) p r k = demand (leb p e) (against (until e) r) k

-- a size that is not 0 is at least so much, and ends within the blob
unfoldable pub bounded : ℕ → ℕ → ℕ → ℕ → Reading ℕ
bounded f at size least = demand (leb least size) (size_out f at size) (room (at + size) (size_out f at size) (got (at + size)))

-- the region of a structure that has a size word
unfoldable pub region_at : ℕ → ℕ → ℕ → ℕ → Reading Region
region_at f at size least = choose (eqb size 0) (got blob_end) (bounded f at size least >>= λ e. got (until e))

-- what the code answers for a value that tells an end
abbrev pub end_read : {A : Type 0} → (A → ℕ) → Outcome A → Result ℕ Refusal
end_read told o = as_result told o
