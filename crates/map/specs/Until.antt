-- A map in a region is the map in the region that ends at the same place.
use Rattle.std.specs.Prelude.{ℕ, ◌+◌, ◌≤◌, ◌≡◌, refl, List, Bool, true, false, eqb, length}
use Rattle.std.proofs.Common.{arith}
use Rattle.blob.specs.Reading.{got, choose, run}
use Rattle.blob.proofs.Laws.{run-number, run-demand, bind_same, same_room}
use Rattle.format.specs.Region.{Region, blob_end, until, end}
use Rattle.format.proofs.Theorems.Until.{run_inside}
use Rattle.format.specs.Map.{VMAP, value_map_at, other_map, map_at, up_to_4}

value-map_until : (R : Region) (at : ℕ) (s : List ℕ) → run (value_map_at R at) s ≡ run (value_map_at (until (end (length s) R)) at) s
unfolding run value_map_at
value-map_until R at s = simp (run-number, run-demand, run_inside)

-- up to 4 bytes, of which the signature's are in the blob
four-until : (R : Region) (at : ℕ) (s : List ℕ) → at + 4 ≤ length s → up_to_4 R at ≡ up_to_4 (until (end (length s) R)) at
four-until blob_end at s h = omega arith
four-until (until e) at s h = refl

pub map-until : (R : Region) (at : ℕ) (s : List ℕ) → run (map_at R at) s ≡ run (map_at (until (end (length s) R)) at) s
unfolding map_at
map-until R at s =
    same_room _ _ _ _ s (λ h. same_room _ _ _ _ s (λ g. bind_same _ _ _ _ s refl (λ signature. go signature g (eqb signature VMAP))))
  where
    go : (signature : ℕ) → at + 4 ≤ length s → (t : Bool)
        → run (choose t (value_map_at R at) (got (other_map R at signature))) s
        ≡ run (choose t (value_map_at (until (end (length s) R)) at) (got (other_map (until (end (length s) R)) at signature))) s
    go signature g true = value-map_until R at s
    go signature g false = rw (four-until R at s g)
