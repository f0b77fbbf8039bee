-- What a reading of a table's header finds, way by way.
use Rattle.std.specs.Prelude.{ℕ, zero, suc, ◌+◌, ◌*◌, ◌≤◌, ◌<◌, ◌≡◌, List, eqb}
use Rattle.std.proofs.Common.{mul-le-mul}
use native.Mathlib.Omega.{arith}
use Rattle.std.proofs.Math.ListN.{length}
use borrow.Author.Tests.{eq-eqb, ne_eqb, le-leb, lt-leb, leb-true}
use Rattle.blob.specs.Le.{le}
use Rattle.blob.specs.Reading.{done, refused, run}
use Rattle.blob.proofs.Laws.{run-number, run_room, run_past, run_holds, run-fails, run-after, run-stopped}
use Rattle.blob.proofs.Finds.{Finds, finds-got, finds-room, finds-choose, finds-demand, finds_bind}
use Rattle.format.specs.Field.{table_offset, table_header, table_size, table_array}
use Rattle.format.specs.Refuse.{offset_out, truncated, wrong_signature, size_out}
use Rattle.format.specs.Region.{bounded}
use Rattle.blob.specs.declared.Refusal.{Refusal}
use Rattle.format.specs.declared.Header.{Header}
use Rattle.format.specs.Table.{signature, header_length, stride, header_at, table_end}

-- what holds of nine numbers holds of each kind's
pub of-kinds : (P : ℕ → Type 0) → P 0 → P 1 → P 2 → P 3 → P 4 → P 5 → P 6 → P 7 → P 8 → (k : ℕ) → k ≤ 8 → P k
of-kinds P a b c d e f g h i zero w = a
of-kinds P a b c d e f g h i (suc zero) w = b
of-kinds P a b c d e f g h i (suc (suc zero)) w = c
of-kinds P a b c d e f g h i (suc (suc (suc zero))) w = d
of-kinds P a b c d e f g h i (suc (suc (suc (suc zero)))) w = e
of-kinds P a b c d e f g h i (suc (suc (suc (suc (suc zero))))) w = f
of-kinds P a b c d e f g h i (suc (suc (suc (suc (suc (suc zero)))))) w = g
of-kinds P a b c d e f g h i (suc (suc (suc (suc (suc (suc (suc zero))))))) w = h
of-kinds P a b c d e f g h i (suc (suc (suc (suc (suc (suc (suc (suc zero)))))))) w = i
of-kinds P a b c d e f g h i (suc (suc (suc (suc (suc (suc (suc (suc (suc k))))))))) w = absurd (omega arith)

-- a header has at least 12 bytes, and at most 16
pub header-bytes : (k : ℕ) → 1 ≤ k → k ≤ 8 → (12 ≤ header_length k) × (header_length k ≤ 16)
header-bytes k h g =
    of-kinds (λ k. 1 ≤ k → (12 ≤ header_length k) × (header_length k ≤ 16)) (λ h. absurd (omega arith)) (λ h. omega arith) (λ h. omega arith) (λ h. omega arith) (λ h. omega arith) (λ h. omega arith) (λ h. omega arith) (λ h. omega arith) (λ h. omega arith) k g h

module _ (k at : ℕ) (s : List ℕ) where
  pub header-past : length s < at → run (header_at k at) s ≡ refused ((offset_out (table_offset k) at).told (length s))
  unfolding header_at
  header-past h = rw run_past

  pub header-short : at ≤ length s → length s < at + header_length k → run (header_at k at) s ≡ refused ((truncated (table_header k) at (header_length k)).told (length s))
  unfolding header_at
  header-short h g = rw (run_room, run_past)

  module _ (h : at + header_length k ≤ length s) where
    here : at ≤ length s
    here = omega arith

    pub header-other : (le 4 s at ≡ signature k → ⊥) → run (header_at k at) s ≡ refused ((wrong_signature at (signature k) (le 4 s at)).told 0)
    unfolding header_at
    header-other g = let i = here in let e = ne_eqb _ _ g in rw (run_room, run_room, run-number, run-fails _ _ _ _ e)

    pub header-found : le 4 s at ≡ signature k → run (header_at k at) s ≡ done (record { size = le 4 s (at + 4); count = le 4 s (at + 8) })
    unfolding header_at run
    header-found g = let i = here in let e = eq-eqb _ _ g in rw (run_room, run_room, run-number, run_holds _ _ _ _ e, run-number, run-number)

-- so many records of a kind have no more bytes than a word counts records of 48
pub records_bytes : (w n : ℕ) → w ≤ 48 → n < 4294967296 → w * n ≤ 206158430208
records_bytes w n h g = let l : n ≤ 4294967296 = omega arith in mul-le-mul h l

-- where a table of records ends, way by way
module _ (k at : ℕ) (h : Header) (s : List ℕ) where
  abbrev start : ℕ
  start = at + header_length k

  abbrev bytes : ℕ
  bytes = stride k * h.count

  pub end-cut : h.size ≡ 0 → length s < start + bytes → run (table_end k at h) s ≡ refused ((truncated (table_array k) start bytes).told (length s))
  unfolding table_end
  end-cut z g = rw (z, run_past)

  pub end-by_count : h.size ≡ 0 → start + bytes ≤ length s → run (table_end k at h) s ≡ done (start + bytes)
  unfolding table_end run
  end-by_count z g = rw (z, run_room)

  end-bounded : Finds (table_end k at h) s (λ e. (start + bytes ≤ e) × (e ≤ length s))
  unfolding table_end bounded
  end-bounded =
      finds-choose (eqb h.size 0) (λ z. finds-room (λ w. finds-got (omega arith, w))) (λ z.
      finds_bind (λ e. e ≤ length s) (finds-demand _ _ (λ d. finds-room (λ w. finds-got w))) (λ e w.
      finds-demand _ _ (λ d. finds-got (leb-true _ _ d, w))))

  -- a table that ends has its records before its end, and ends in the blob
  pub end-bounds : (e : ℕ) → run (table_end k at h) s ≡ done e → (start + bytes ≤ e) × (e ≤ length s)
  end-bounds e g = end-bounded.found e g

  pub end_fits : (e : ℕ) → run (table_end k at h) s ≡ done e → start + bytes ≤ length s
  end_fits e g = let b = end-bounds e g in omega arith

  module _ (f least : ℕ) (ef : f ≡ table_size k) (el : least ≡ header_length k) (z : h.size ≡ 0 → ⊥) where
    pub end-unbounded : (r : Refusal) → run (bounded f at h.size least) s ≡ refused r → run (table_end k at h) s ≡ refused r
    unfolding table_end
    end-unbounded r g = rw (ne_eqb _ _ z) (run-stopped _ _ s r (rw (ef, el) at g))

    module _ (e : ℕ) (g : run (bounded f at h.size least) s ≡ done e) where
      pub end-past : e < start + bytes → run (table_end k at h) s ≡ refused ((size_out (table_array k) at h.size).told 0)
      unfolding table_end
      end-past l = rw (ne_eqb _ _ z, run-after _ _ s e (rw (ef, el) at g)) (run-fails _ _ _ _ (lt-leb _ _ l))

      pub end-by_size : start + bytes ≤ e → run (table_end k at h) s ≡ done e
      unfolding table_end run
      end-by_size l = rw (ne_eqb _ _ z, run-after _ _ s e (rw (ef, el) at g)) (run_holds _ _ _ _ (le-leb _ _ l))
