-- The maps of a MAPS as one row: map 0, then those that the offsets name.
use Prim.Native.Nat.{ℕ, zero, suc, ◌+◌, ◌-◌, ◌*◌, ◌≤◌, ◌<◌}
use Rattle.std.specs.Prelude.{◌≡◌, List, [], ◌∷◌, Bool, true, false, leb, eqb, length, Ok, Err}
use Rattle.std.proofs.Math.Path.{refl, ap, sym}
use Rattle.std.proofs.Common.{◌∙◌, leb-true, leb-false, eq-eqb, ne_eqb}
use native.Mathlib.Omega.{arith}
use Rattle.std.proofs.Math.Dec.{eqb-suc-zero}
use Rattle.blob.specs.declared.Refusal.{Refusal}
use Rattle.blob.specs.Le.{le}
use Rattle.blob.specs.Reading.{Reading, got, room, Outcome, done, refused, choose, run, then, ◌>>=◌, number, many, verdict}
use Rattle.blob.proofs.Laws.{not_fine, run_bind, run-number, run_room, run_past, bind_same, many-same}
use Rattle.blob.proofs.Finds.{Finds, finds-choose, finds-next}
use Rattle.format.specs.Refuse.{size_out}
use Rattle.format.specs.Region.{Region, until, end, region_at, end_read}
use Rattle.format.proofs.Theorems.Ends.{is_end, no_end}
use Rattle.format.specs.Field.{table_size, MAPS_offsets_array}
use Rattle.format.specs.Table.{MAPS, header_length}
use Rattle.format.specs.Definition.{step}
use Rattle.format.specs.Map.{Mapped, map_at, maps_at}
use Rattle.format.specs.declared.Header.{Header}
use Rattle.map.specs.Until.{map-until}
use Rattle.map.specs.Decides.{Told, map-told}

-- The map whose offset word stands at a place. The word before the offsets is not read: it stands for map 0.
unfoldable pub listed_at : (end start first place : ℕ) → Reading Mapped
listed_at end start first place = choose (eqb place start) (map_at (until end) first) (number 4 place >>= map_at (until end))

abbrev pub listed : (end start n : ℕ) → Reading (List Mapped)
listed end start n = many (listed_at end start (start + 4 * n)) (step 4) n start

module _ (e start first place : ℕ) (s : List ℕ) where
  pub listed-first : place ≡ start → run (listed_at e start first place) s ≡ run (map_at (until e) first) s
  unfolding listed_at
  listed-first h = rw (eq-eqb _ _ h)

  pub listed-word : (word : ℕ) → (place ≡ start → ⊥) → word ≡ le 4 s place → run (listed_at e start first place) s ≡ run (map_at (until e) word) s
  unfolding listed_at
  listed-word word h w = rw (ne_eqb _ _ h, w) (run-number _ _ _ _)

  listed-finds : e ≤ length s → Finds (listed_at e start first place) s (λ m. Told s m)
  unfolding listed_at
  listed-finds h = finds-choose (eqb place start) (λ t. map-told e first s h) (λ t. finds-next 4 place (λ word w. map-told e word s h))

  pub listed-told : e ≤ length s → (m : Mapped) → run (listed_at e start first place) s ≡ done m → Told s m
  listed-told h m d = (listed-finds h).found m d

-- what reading the region of a MAPS finds
abbrev pub region : (at size : ℕ) → List ℕ → Outcome Region
region at size s = run (region_at (table_size MAPS) at size (header_length MAPS)) s

-- what follows the region
abbrev behind : Region → (at size count : ℕ) → Reading (List Mapped)
behind R at size count =
    choose (eqb count 0) (got []) (
    room (at + 16 + 4 * (count - 1)) (size_out MAPS_offsets_array at size) (
    map_at R (at + 16 + 4 * (count - 1)) >>= λ m.
    many (λ p. number 4 p >>= map_at R) (step 4) (count - 1) (at + 16) >>= λ ms.
    got (m ∷ ms)))

module _ (R : Region) (at size : ℕ) (s : List ℕ) where
  behind-cut : (count : ℕ) → at + 16 ≤ length s → length s < at + 12 + 4 * count → run (behind R at size count) s ≡ refused ((size_out MAPS_offsets_array at size).told 0)
  behind-cut zero a h = absurd (omega arith)
  behind-cut (suc n) a h = rw (eqb-suc-zero n) (run_past _ _ _ _ (omega arith))

  behind-listed : (count : ℕ) → at + 12 + 4 * count ≤ length s → run (behind R at size count) s ≡ run (listed (end (length s) R) (at + 12) count) s
  unfolding many
  behind-listed zero h = refl
  behind-listed (suc n) h =
      let e = end (length s) R in
      let first = at + 12 + 4 * suc n in
      let q : at + 16 + 4 * (suc n - 1) ≡ first = omega arith in
      let k : suc n - 1 ≡ n = omega arith in
      let p : at + 16 ≡ at + 12 + 4 = omega arith in
      rw (eqb-suc-zero n, q, k, p) (run_room _ _ _ _ h ∙ bind_same _ _ _ _ s
      (map-until R first s ∙ sym (listed-first e (at + 12) first (at + 12) s refl))
      (λ m. bind_same _ _ _ _ s (many-same _ _ (step 4) (λ place. at + 12 < place) s (word first) (λ a place g. omega arith) n (at + 12 + 4) (omega arith)) (λ ms. refl)))
    where
      word : (first place : ℕ) → at + 12 < place → run (number 4 place >>= map_at R) s ≡ run (listed_at (end (length s) R) (at + 12) first place) s
      word first place g =
          run-number _ _ _ _ ∙ map-until R (le 4 s place) s ∙ sym (listed-word _ (at + 12) first place s (le 4 s place) (λ t. omega arith) refl)

module _ (at : ℕ) (h : Header) (s : List ℕ) where
  pub maps-refused : (r : Refusal) → Err r ≡ end_read (end (length s)) (region at h.size s) → run (maps_at at h) s ≡ refused r
  unfolding maps_at then
  maps-refused r f = run_bind _ _ _ ∙ rw (no_end (end (length s)) (region at h.size s) r f)

  module _ (e : ℕ) (f : Ok e ≡ end_read (end (length s)) (region at h.size s)) where
    opened : run (maps_at at h) s ≡ run (behind (is_end (end (length s)) (region at h.size s) e f).0 at h.size h.count) s
    unfolding maps_at then
    opened = run_bind _ _ _ ∙ ap (λ o. then o (λ R. run (behind R at h.size h.count) s)) (is_end (end (length s)) (region at h.size s) e f).1

    pub maps-cut : at + 16 ≤ length s → length s < at + 12 + 4 * h.count → run (maps_at at h) s ≡ refused ((size_out MAPS_offsets_array at h.size).told 0)
    maps-cut a g = opened ∙ behind-cut _ at h.size s h.count a g

    pub maps-listed : at + 12 + 4 * h.count ≤ length s → run (maps_at at h) s ≡ run (listed e (at + 12) h.count) s
    maps-listed g =
        opened
        ∙ behind-listed _ at h.size s h.count g
        ∙ ap (λ x. run (listed x (at + 12) h.count) s) (sym (is_end (end (length s)) (region at h.size s) e f).2)

    pub maps-room : at + 16 ≤ length s → verdict (run (maps_at at h) s) ≡ Ok tt → at + 12 + 4 * h.count ≤ length s
    maps-room a v = go (leb (at + 12 + 4 * h.count) (length s)) refl
      where
        go : (t : Bool) → leb (at + 12 + 4 * h.count) (length s) ≡ t → at + 12 + 4 * h.count ≤ length s
        go true p = leb-true _ _ p
        go false p = absurd (not_fine _ (sym (ap verdict (maps-cut a (leb-false _ _ p))) ∙ v))
