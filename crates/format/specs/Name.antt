-- Names. "offset 0 is absent. Else the offset within the blob (5), a u32 size there (1) of at least 4 (3) that counts itself,
-- all within the blob (1). Text is little-endian 16-bit units up to the first zero unit or the end; an unpaired surrogate
-- before that is 6. Start is offset + 4; units are the text's." (layouts). "The name answer must say whether one ended it", a zero unit
-- (request 04)
use Rattle.std.specs.Prelude.{ℕ, zero, suc, ◌+◌, ◌-◌, ◌/◌, ◌%◌, Bool, true, false, not, ◌&&◌, leb, ltb, eqb}
use Rattle.blob.specs.Reading.{Reading, got, choose, demand, ◌>>=◌, number}
use Rattle.format.specs.Refuse.{truncated, size_out, offset_out, not_utf16}
use Rattle.format.specs.Region.{Region, inside}
use Rattle.format.specs.declared.Name.{Name}

-- the first and the second half of a surrogate pair
abbrev pub high : ℕ → Bool
high u = leb 0xD800 u && ltb u 0xDC00

abbrev pub low : ℕ → Bool
low u = leb 0xDC00 u && ltb u 0xE000

-- "Fields a kind lacks, and an absent name's start and units, are 0" (the lists); "0 for an absent name" (request 04)
abbrev pub absent : Name
absent = record { start = 0; units = 0; ended = false }

-- the text's units from a place on: how many are left, how many were read, and whether a high surrogate still waits for its low one
unfoldable pub text : (field offset : ℕ) → (left at units : ℕ) → Bool → Reading Name
text f o zero at k waits = demand (not waits) (not_utf16 f o) (got (record { start = o + 4; units = k; ended = false }))
text f o (suc left) at k waits =
    number 2 at >>= λ u.
    choose waits
    (demand (low u) (not_utf16 f o) (text f o left (at + 2) (k + 1) false))
    (choose (eqb u 0) (got (record { start = o + 4; units = k; ended = true }))
    (demand (not (low u)) (not_utf16 f o) (text f o left (at + 2) (k + 1) (high u))))

-- a name that is not absent, in the region that names stand in: the blob, where no rule says another. The original refuses an odd
-- length before it looks at any unit (docs/DIFFERENCES.md)
unfoldable pub sized : Region → ℕ → ℕ → Reading Name
sized region f o =
    inside region o (offset_out f o) (
    inside region (o + 4) (truncated f o 4) (
    number 4 o >>= λ size.
    demand (leb 4 size) (size_out f o size) (
    inside region (o + size) (truncated f o size) (
    demand (eqb (size % 2) 0) (not_utf16 f o) (
    text f o ((size - 4) / 2) (o + 4) 0 false)))))

unfoldable pub name_at : Region → ℕ → ℕ → Reading Name
name_at region f o = choose (eqb o 0) (got absent) (sized region f o)
