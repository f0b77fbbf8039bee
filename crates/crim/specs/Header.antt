-- What a reading of the block's header finds, way by way.
use Rattle.std.specs.Prelude.{ℕ, ◌≤◌, ◌<◌, ◌≡◌, List}
use native.Mathlib.Omega.{arith}
use Rattle.std.proofs.Math.ListN.{length}
use borrow.Author.Tests.{eq-eqb, ne_eqb, le-leb, lt-leb}
use Rattle.blob.specs.Le.{le}
use Rattle.blob.specs.Reading.{done, refused, run}
use Rattle.blob.proofs.Laws.{run-number, run_room, run_past, run_holds, run-fails, run-got}
use Rattle.format.specs.Field.{CRIM_signature, CRIM_size, CRIM_major_version, CRIM_minor_version, CRIM_provider_count}
use Rattle.format.specs.Refuse.{truncated, wrong_signature, size_out}
use Rattle.format.specs.Crim.{CRIM, header}

module _ (s : List ℕ) where
  pub no-signature : length s < 4 → run header s ≡ refused ((truncated CRIM_signature 0 4).told (length s))
  unfolding header
  no-signature h = rw run_past

  module _ (i : 4 ≤ length s) where
    pub other_signature : (le 4 s 0 ≡ CRIM → ⊥) → run header s ≡ refused ((wrong_signature 0 CRIM (le 4 s 0)).told 0)
    unfolding header
    other_signature g = let e = ne_eqb _ _ g in rw (run_room, run-number, run-fails _ _ _ _ e)

    module _ (g : le 4 s 0 ≡ CRIM) where
      pub no_size : length s < 8 → run header s ≡ refused ((truncated CRIM_size 4 4).told (length s))
      unfolding header
      no_size h = let e = eq-eqb _ _ g in rw (run_room, run-number, run_holds _ _ _ _ e, run_past)

      pub no-major : 8 ≤ length s → length s < 10 → run header s ≡ refused ((truncated CRIM_major_version 8 2).told (length s))
      unfolding header
      no-major j h = let e = eq-eqb _ _ g in rw (run_room, run-number, run_holds _ _ _ _ e, run_room, run-number, run_past)

      pub no-minor : 10 ≤ length s → length s < 12 → run header s ≡ refused ((truncated CRIM_minor_version 10 2).told (length s))
      unfolding header
      no-minor j h =
          let e = eq-eqb _ _ g in
          let k : 8 ≤ length s = omega arith in
          rw (run_room, run-number, run_holds _ _ _ _ e, run_room, run-number, run_room, run-number, run_past)

      pub no-count : 12 ≤ length s → length s < 16 → run header s ≡ refused ((truncated CRIM_provider_count 12 4).told (length s))
      unfolding header
      no-count j h =
          let e = eq-eqb _ _ g in
          let k : 8 ≤ length s = omega arith in
          let l : 10 ≤ length s = omega arith in
          rw (run_room, run-number, run_holds _ _ _ _ e, run_room, run-number, run_room, run-number, run_room, run-number, run_past)

      module _ (j : 16 ≤ length s) where
        pub size-under : le 4 s 4 < 16 → run header s ≡ refused ((size_out CRIM_size 0 (le 4 s 4)).told 0)
        unfolding header
        size-under h =
            let e = eq-eqb _ _ g in
            let f = lt-leb 16 (le 4 s 4) h in
            let k : 8 ≤ length s = omega arith in
            let l : 10 ≤ length s = omega arith in
            let m : 12 ≤ length s = omega arith in
            rw (run_room, run-number, run_holds _ _ _ _ e, run_room, run-number, run_room, run-number, run_room, run-number, run_room, run-number, run-fails _ _ _ _ f)

        pub size-past : 16 ≤ le 4 s 4 → length s < le 4 s 4 → run header s ≡ refused ((size_out CRIM_size 0 (le 4 s 4)).told 0)
        unfolding header
        size-past h o =
            let e = eq-eqb _ _ g in
            let f = le-leb 16 (le 4 s 4) h in
            let k : 8 ≤ length s = omega arith in
            let l : 10 ≤ length s = omega arith in
            let m : 12 ≤ length s = omega arith in
            rw (run_room, run-number, run_holds _ _ _ _ e, run_room, run-number, run_room, run-number, run_room, run-number, run_room, run-number, run_holds _ _ _ _ f, run_past)

        pub header-found : 16 ≤ le 4 s 4 → le 4 s 4 ≤ length s
            → run header s ≡ done (record { size = le 4 s 4; major = le 2 s 8; minor = le 2 s 10; count = le 4 s 12 })
        unfolding header
        header-found h o =
            let e = eq-eqb _ _ g in
            let f = le-leb 16 (le 4 s 4) h in
            let k : 8 ≤ length s = omega arith in
            let l : 10 ≤ length s = omega arith in
            let m : 12 ≤ length s = omega arith in
            rw (run_room, run-number, run_holds _ _ _ _ e, run_room, run-number, run_room, run-number, run_room, run-number, run_room, run-number, run_holds _ _ _ _ f, run_room, run-got)
