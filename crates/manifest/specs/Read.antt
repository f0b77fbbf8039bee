-- A reading, way by way, as `read` goes.
use Rattle.std.specs.Prelude.{ℕ, ◌+◌, ◌*◌, ◌≤◌, ◌<◌, ◌≡◌, Bool, true, false, List, [], ◌∷◌, map, length, take, leb, Ok, Err, Result}
use Rattle.std.proofs.Math.Path.{refl}
use Rattle.std.proofs.Common.{ap, sym, ◌∙◌, arith, le-leb, leb-true, leb-false}
use Rattle.std.proofs.lemmas.Bool.{lt-leb}
use Rattle.blob.specs.declared.Refusal.{Refusal}
use Rattle.blob.specs.Reading.{Outcome, done, refused, choose, run, then, as_result}
use Rattle.blob.proofs.Laws.{result_found, result_refused, both, choose-done, run_room, run_past}
use Rattle.blob.proofs.Finds.{Finds, finds-got, finds-room, finds-demand, finds-next}
use Rattle.format.specs.Field.{CRIM_provider_descriptor_array}
use Rattle.format.specs.Refuse.{truncated}
use Rattle.format.specs.Provider.{Provider}
use Rattle.format.specs.Crim.{Crim, header, crim_read, providers_of, crim}
use Rattle.format.specs.Area.{Row, rows}
use Rattle.format.specs.Lists.{Entry, lists}
use Rattle.areas.specs.Areas.{providers}
use Rattle.format.specs.Answer.{answer, needing, own, too_small, moderate, lent_enough, with_room, block, reading, counted, capped}
use Rattle.format.specs.declared.Answer.{Answer}
use Rattle.format.specs.declared.CrimHeader.{CrimHeader}
use Rattle.counts.specs.Short.{short}

-- what is read of the block behind its header, whatever is lent, and with capacities
unfoldable pub block_of : CrimHeader → List ℕ → Outcome Crim
block_of h s = then (run (providers_of h) s) (λ ps. done (record { header = h; providers = ps }))

unfoldable pub block_reading : CrimHeader → List ℕ → List ℕ → Outcome Crim
block_reading h s capacities = then (run (providers_of h) s) (λ ps. with_room rows capacities (lists ps) (record { header = h; providers = ps }))

-- what the code answers for a reading, and for the needs, where a refusal is an error
abbrev pub read_as : Outcome Crim → Result Answer Refusal
read_as o = as_result (λ c. answer (done c)) o

abbrev pub needed_as : Outcome Crim → Result Answer Refusal
needed_as o = as_result (λ c. needing (done c)) o

module _ (bytes : List ℕ) where
  pub block-long : 16777216 < length bytes → block bytes ≡ refused (own 7)
  unfolding block
  block-long h = rw (lt-leb _ _ h)

  module _ (h : length bytes ≤ 16777216) where
    pub block-headless : (r : Refusal) → run header bytes ≡ refused r → block bytes ≡ refused r
    unfolding block crim then
    block-headless r f = rw (le-leb _ _ h, f)

    pub block-headed : (c : CrimHeader) → run header bytes ≡ done c → block bytes ≡ block_of c (take c.size bytes)
    unfolding block crim then block_of
    block-headed c f = rw (le-leb _ _ h, f)

module _ (bytes words : List ℕ) (capacities : List ℕ) where
  pub too_long : 16777216 < length bytes → reading bytes words capacities ≡ refused (own 7)
  unfolding reading
  too_long h = rw (lt-leb _ _ h)

  module _ (h : length bytes ≤ 16777216) where
    pub unlent : lent_enough capacities words ≡ false → reading bytes words capacities ≡ refused (own 8)
    unfolding reading
    unlent e = rw (le-leb _ _ h, e)

    module _ (e : lent_enough capacities words ≡ true) where
      lent : reading bytes words capacities ≡ then (crim bytes) (λ c. with_room rows capacities (lists c.providers) c)
      unfolding reading
      lent = rw (le-leb _ _ h, e)

      pub no_header : (r : Refusal) → run header bytes ≡ refused r → reading bytes words capacities ≡ refused r
      unfolding crim then
      no_header r f = lent ∙ rw f

      pub headed : (c : CrimHeader) → run header bytes ≡ done c → reading bytes words capacities ≡ block_reading c (take c.size bytes) capacities
      unfolding crim then block_reading
      headed c f = lent ∙ rw f (go (run (providers_of c) (take c.size bytes)))
        where
          go : (o : Outcome (List Provider))
              → then (then o (λ ps. done (record { header = c; providers = ps }))) (λ (d : Crim). with_room rows capacities (lists d.providers) d)
              ≡ then o (λ ps. with_room rows capacities (lists ps) (record { header = c; providers = ps }))
          go (done ps) = refl
          go (refused r) = refl

-- what the answer for the header tells of its reading
pub is_header : (o : Outcome CrimHeader) (h : CrimHeader) → Ok h ≡ crim_read o → o ≡ done h
is_header o h e = let f = result_found (λ h. h) o h e in f.1 ∙ ap done (sym f.2)

pub no-header_read : (o : Outcome CrimHeader) (r : Refusal) → Err r ≡ crim_read o → o ≡ refused r
no-header_read o r e = result_refused (λ h. h) o r e

-- an accepted header's size
pub record Sized (s : List ℕ) (h : CrimHeader) : Type 0 where
  pub least : 16 ≤ h.size
  pub lent : h.size ≤ length s

header-sized : (s : List ℕ) → Finds header s (λ c. Sized s c)
unfolding header
header-sized s =
    finds-room (λ _. finds-next 4 0 (λ found _. finds-demand _ _ (λ _.
    finds-room (λ _. finds-next 4 4 (λ size _. finds-room (λ _. finds-next 2 8 (λ major _. finds-room (λ _. finds-next 2 10 (λ minor _.
    finds-room (λ _. finds-next 4 12 (λ count _. finds-demand _ _ (λ l. finds-room (λ g.
    finds-got (record { least = leb-true _ _ l; lent = g }))))))))))))))

pub sized : (s : List ℕ) (h : CrimHeader) → run header s ≡ done h → Sized s h
sized s h e = (header-sized s).found h e

module _ (h : CrimHeader) (s : List ℕ) where
  pub array-cut : length s < 16 + 20 * h.count → run (providers_of h) s ≡ refused ((truncated CRIM_provider_descriptor_array 16 (20 * h.count)).told (length s))
  unfolding providers_of
  array-cut g = run_past _ _ _ _ g

  pub array_whole : 16 + 20 * h.count ≤ length s → run (providers_of h) s ≡ run (providers h.count) s
  unfolding providers_of
  array_whole g = run_room _ _ _ _ g

  -- accepted providers: their array is whole
  pub array-done : (ps : List Provider) → run (providers_of h) s ≡ done ps → (16 + 20 * h.count ≤ length s) × (run (providers h.count) s ≡ done ps)
  unfolding providers_of run
  array-done ps e = let d = choose-done (leb (16 + 20 * h.count) (length s)) _ _ ps e in (leb-true _ _ d.0, d.1)

  pub block_refused : (r : Refusal) → run (providers_of h) s ≡ refused r → block_of h s ≡ refused r
  unfolding block_of then
  block_refused r e = rw e

  pub block-done : (ps : List Provider) → run (providers_of h) s ≡ done ps → block_of h s ≡ done (record { header = h; providers = ps })
  unfolding block_of then
  block-done ps e = rw e

  module _ (capacities : List ℕ) where
    pub reading-refused : (r : Refusal) → run (providers_of h) s ≡ refused r → block_reading h s capacities ≡ refused r
    unfolding block_reading then
    reading-refused r e = rw e

    pub reading-done : (ps : List Provider) → run (providers_of h) s ≡ done ps
        → block_reading h s capacities ≡ with_room rows capacities (lists ps) (record { header = h; providers = ps })
    unfolding block_reading then
    reading-done ps e = rw e

-- what is accepted where each list has room
abbrev pub by_verdict : {A : Type 0} → A → Result (Unit {0}) Refusal → Outcome A
by_verdict a (Ok u) = done a
by_verdict a (Err r) = refused r

-- the lists' needs, as far as anyone asks, decide: no capacity is over 65,536
pub room-decides : {A : Type 0} (rs : List Row) (cs : List ℕ) (ls : List (List Entry)) (a : A) → moderate cs ≡ true
    → with_room rs cs ls a ≡ by_verdict a (short rs cs (map capped (counted ls)))
unfolding with_room short moderate
room-decides [] cs ls a m = refl
room-decides (r ∷ rs) [] ls a m = refl
room-decides (r ∷ rs) (c ∷ cs) [] a m = refl
room-decides (r ∷ rs) (c ∷ cs) (l ∷ ls) a m = step (leb (length l) c) refl (room-decides rs cs ls a (both (leb c 65536) _ m).1)
  where
    step : (t : Bool) → leb (length l) c ≡ t → with_room rs cs ls a ≡ by_verdict a (short rs cs (map capped (counted ls)))
        → choose t (with_room rs cs ls a) (refused (too_small r.number c))
        ≡ by_verdict a (choose (leb (capped (length l)) c) (short rs cs (map capped (counted ls))) (Err (too_small r.number c)))
    step true f ih = let g = leb-true (length l) c f in let i : capped (length l) ≤ c = omega arith in rw (le-leb _ _ i) ih
    step false f ih =
        let g = leb-false (length l) c f in
        let k = leb-true c 65536 (both _ _ m).0 in
        let i : c < capped (length l) = omega arith in
        rw (lt-leb _ _ i)
