-- Small indexes, computed: each sort of refusal at its place, what is read, and what is written.
use Rattle.std.specs.Prelude.{ℕ, ◌≡◌, refl, List, [], ◌∷◌, ◌++◌, map, replicate}
use Rattle.blob.specs.Reading.{done, refused, then}
use Rattle.blob.specs.Laid.{flat}
use Rattle.number.specs.Number.{form_of, upto, ended, value, last_or, fault, number_at}
use Rattle.format.specs.Answer.{too_small}
use Rattle.index.specs.Index.{INDEX, Index, row_at, rows_at, index, row_words, reading, written}

-- two providers, with no unknown2 words and with 300; an event of each, the second with all that its fields can hold
abbrev two : Index
two =
    record {
      counts = 0 ∷ 300 ∷ [];
      entries = (0 ∷ 1 ∷ 0 ∷ 16 ∷ 4 ∷ 0 ∷ 0 ∷ 0 ∷ 258 ∷ []) ∷ (1 ∷ 65535 ∷ 255 ∷ 255 ∷ 255 ∷ 255 ∷ 65535 ∷ 18446744073709551615 ∷ 4294967295 ∷ []) ∷ [];
    }

abbrev two_bytes : List ℕ
two_bytes =
    1 ∷ 2 ∷ 0 ∷ 0xac ∷ 0x02 ∷ 2 ∷ 0 ∷ 1 ∷ 0 ∷ 16 ∷ 4 ∷ 0 ∷ 0 ∷ 0 ∷ 0x82 ∷ 0x02 ∷ 1 ∷ 0xff ∷ 0xff ∷ 0x03 ∷ 0xff ∷ 0x01 ∷ 0xff ∷ 0x01 ∷ 0xff ∷ 0x01 ∷ 0xff ∷ 0x01 ∷ 0xff ∷ 0xff ∷ 0x03
    ∷ 0xff ∷ 0xff ∷ 0xff ∷ 0xff ∷ 0xff ∷ 0xff ∷ 0xff ∷ 0xff ∷ 0xff ∷ 0x01 ∷ 0xff ∷ 0xff ∷ 0xff ∷ 0xff ∷ 0x0f ∷ []

pub two-written : written two ≡ two_bytes
unfolding flat form_of
two-written = refl

-- its words: "keywords low, high"; and one word too few
pub two-read : reading two_bytes (replicate 24 0)
    ≡ done (2 ∷ 0 ∷ 300 ∷ 2 ∷ 0 ∷ 1 ∷ 0 ∷ 16 ∷ 4 ∷ 0 ∷ 0 ∷ 0 ∷ 0 ∷ 258 ∷ 1 ∷ 65535 ∷ 255 ∷ 255 ∷ 255 ∷ 255 ∷ 65535 ∷ 4294967295 ∷ 4294967295 ∷ 4294967295 ∷ [])
unfolding reading index rows_at row_at number_at upto ended value last_or then flat row_words
two-read = refl

pub two-short : reading two_bytes (replicate 23 0) ≡ refused (too_small INDEX 23)
unfolding reading index rows_at row_at number_at upto ended value last_or then flat row_words
two-short = refl

-- 18 for a byte that is left over comes before 9
pub two-and_more : reading (two_bytes ++ 0 ∷ []) [] ≡ refused (fault 18 46)
unfolding reading index rows_at row_at number_at upto ended value last_or then flat row_words
two-and_more = refl

-- an index of nothing
pub nothing-in_it : index (1 ∷ 0 ∷ 0 ∷ []) ≡ done (record { counts = []; entries = [] })
unfolding index rows_at number_at upto ended value last_or then flat
nothing-in_it = refl

-- 15: no bytes, a number without its last byte, no provider count, no entry count, fewer entries than are said, by far; a field that runs
-- out, though its bytes are past its width already
pub cut_short : map index
    ([]
    ∷ (0x81 ∷ [])
    ∷ (1 ∷ [])
    ∷ (1 ∷ 0 ∷ [])
    ∷ (1 ∷ 0 ∷ 0xff ∷ 0xff ∷ 0xff ∷ 0xff ∷ 0x0f ∷ 0 ∷ [])
    ∷ (1 ∷ 0 ∷ 1 ∷ 0 ∷ 0 ∷ 0xff ∷ 0xff ∷ 0xff ∷ [])
    ∷ [])
    ≡ refused (fault 15 0) ∷ refused (fault 15 0) ∷ refused (fault 15 1) ∷ refused (fault 15 2) ∷ refused (fault 15 8) ∷ refused (fault 15 5) ∷ []
unfolding index rows_at row_at number_at upto ended value last_or then flat
cut_short = refl

-- 16: longer than shortest, an edition past 32 bits (and not 17), ten bytes without a last one, a version of 256, keywords past 64 bits
pub wrong_numbers : map index
    ((0x81 ∷ 0x00 ∷ [])
    ∷ (0x80 ∷ 0x80 ∷ 0x80 ∷ 0x80 ∷ 0x10 ∷ [])
    ∷ (1 ∷ replicate 10 0x80)
    ∷ (1 ∷ 0 ∷ 1 ∷ 0 ∷ 0 ∷ 0x80 ∷ 0x02 ∷ [])
    ∷ (1 ∷ 0 ∷ 1 ∷ 0 ∷ 0 ∷ 0 ∷ 0 ∷ 0 ∷ 0 ∷ 0 ∷ (replicate 9 0xff ++ 0x02 ∷ []))
    ∷ [])
    ≡ refused (fault 16 0) ∷ refused (fault 16 0) ∷ refused (fault 16 1) ∷ refused (fault 16 5) ∷ refused (fault 16 10) ∷ []
unfolding index rows_at row_at number_at upto ended value last_or then flat
wrong_numbers = refl

-- 17: another edition, whatever follows
pub other_editions : map index ((0 ∷ []) ∷ (2 ∷ 0x80 ∷ 0 ∷ []) ∷ (0xac ∷ 0x02 ∷ []) ∷ []) ≡ refused (fault 17 0) ∷ refused (fault 17 0) ∷ refused (fault 17 0) ∷ []
unfolding index number_at upto ended value last_or then
other_editions = refl
