-- What a reading of a WEVT's header and of a descriptor finds, way by way.
use Prim.Native.Nat.{ℕ, zero, suc, ◌+◌, ◌-◌, ◌≤◌, ◌<◌, max}
use Rattle.std.specs.Prelude.{◌≡◌, List, Ok}
use Rattle.std.proofs.Math.Path.{refl, ap}
use Rattle.std.proofs.Common.{◌∙◌}
use native.Mathlib.Omega.{arith}
use Rattle.std.proofs.Math.ListN.{length}
use borrow.Author.Tests.{eq-eqb, ne_eqb}
use Rattle.blob.specs.Le.{le}
use Rattle.blob.specs.Reading.{done, refused, run, many, verdict}
use Rattle.blob.proofs.Laws.{run-number, run_room, run_past, run_holds, run-fails, run-got, many_more, many-none}
use Rattle.format.specs.Field.{WEVT_provider_offset, WEVT_header, WEVT_element_offset, WEVT_element_signature}
use Rattle.format.specs.Refuse.{offset_out, truncated, wrong_signature}
use Rattle.format.specs.Definition.{step}
use Rattle.format.specs.Provider.{WEVT, wevt_at, descriptor_at}

module _ (at : ℕ) (s : List ℕ) where
  pub wevt_past : length s < at → run (wevt_at at) s ≡ refused ((offset_out WEVT_provider_offset at).told (length s))
  unfolding wevt_at
  wevt_past h = rw run_past

  pub wevt_short : at ≤ length s → length s < at + 20 → run (wevt_at at) s ≡ refused ((truncated WEVT_header at 20).told (length s))
  unfolding wevt_at
  wevt_short h g = rw (run_room, run_past)

  module _ (h : at + 20 ≤ length s) where
    here : at ≤ length s
    here = omega arith

    pub wevt_other : (le 4 s at ≡ WEVT → ⊥) → run (wevt_at at) s ≡ refused ((wrong_signature at WEVT (le 4 s at)).told 0)
    unfolding wevt_at
    wevt_other g = let i = here in let e = ne_eqb _ _ g in rw (run_room, run_room, run-number, run-fails _ _ _ _ e)

    pub wevt_found : le 4 s at ≡ WEVT
        → run (wevt_at at) s ≡ done (record { size = le 4 s (at + 4); message = le 4 s (at + 8); descriptors = le 4 s (at + 12); unknown2 = le 4 s (at + 16) })
    unfolding wevt_at run
    wevt_found g =
        let i = here in let e = eq-eqb _ _ g in
        rw (run_room, run_room, run-number, run_holds _ _ _ _ e, run-number, run-number, run-number, run-number)

module _ (at : ℕ) (s : List ℕ) (offset : ℕ) (o : offset ≡ le 4 s at) where
  pub descriptor_past : length s < offset → run (descriptor_at at) s ≡ refused ((offset_out WEVT_element_offset offset).told (length s))
  unfolding descriptor_at
  descriptor_past h = rw (run-number, run-number, ← o, run_past)

  pub descriptor_short : offset ≤ length s → length s < offset + 4 → run (descriptor_at at) s ≡ refused ((truncated WEVT_element_signature offset 4).told (length s))
  unfolding descriptor_at
  descriptor_short h g = rw (run-number, run-number, ← o, run_room, run_past)

  pub descriptor_found : offset + 4 ≤ length s → run (descriptor_at at) s ≡ done (record { offset = offset; unknown = le 4 s (at + 4); signature = le 4 s offset })
  unfolding descriptor_at
  descriptor_found h =
      let i : offset ≤ length s = omega arith in
      rw (run-number, run-number, ← o, run_room, run_room, run-number, run-got)

-- the furthest element of n descriptors
unfoldable pub furthest : List ℕ → ℕ → ℕ → ℕ
furthest s zero at = 0
furthest s (suc n) at = max (le 4 s at) (furthest s n (at + 8))

module _ (s : List ℕ) where
  pub furthest-more : (left at : ℕ) → 0 < left → furthest s left at ≡ max (le 4 s at) (furthest s (left - 1) (at + 8))
  unfolding furthest
  furthest-more left at h = let e : left ≡ suc (left - 1) = omega arith in ap (λ n. furthest s n at) e

  pub furthest-none : (left at most : ℕ) → left ≤ 0 → max most (furthest s left at) ≡ most
  unfolding furthest
  furthest-none left at most h = let e : left ≡ 0 = omega arith in rw e (omega arith)

  -- where its signature lies in the blob, all do
  pub furthest-fits : (n at : ℕ) → furthest s n at + 4 ≤ length s → verdict (run (many descriptor_at (step 8) n at) s) ≡ Ok tt
  unfolding furthest
  furthest-fits zero at h = many-none descriptor_at (step 8) 0 at s (omega arith)
  furthest-fits (suc n) at h =
      let e : suc n - 1 ≡ n = omega arith in
      many_more descriptor_at (step 8) (suc n) at s _ (omega arith) (descriptor_found at s _ refl (omega arith)) ∙ rw e (furthest-fits n (at + 8) (omega arith))
