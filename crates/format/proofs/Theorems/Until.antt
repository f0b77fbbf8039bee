-- A region only matters by its end: what is read in it is what is read until that end.
use Rattle.std.specs.Prelude.{ℕ, ◌≡◌, refl, List, Bool, true, false, length, leb, eqb, Ok, Err}
use Rattle.std.proofs.Common.{ap, sym, ◌∙◌}
use Rattle.blob.specs.declared.Refusal.{Refusal}
use Rattle.blob.specs.Reading.{Fault, Reading, got, refused, choose, run, ◌>>=◌}
use Rattle.blob.proofs.Laws.{run-after, run-stopped, run-number, run-demand}
use Rattle.format.specs.Region.{Region, blob_end, until, end, inside, end_read}
use Rattle.format.specs.Name.{absent, sized, name_at}
use Rattle.format.specs.Template.{template_at}
use Rattle.format.proofs.Theorems.Ends.{is_end, no_end}

-- a place is in a region where it is not past the region's end
pub run_inside : {A : Type 0} (region : Region) (p : ℕ) (r : Fault) (k : Reading A) (s : List ℕ)
    → run (inside region p r k) s ≡ choose (leb p (end (length s) region)) (run k s) (refused (r.told (end (length s) region)))
unfolding run inside
run_inside blob_end p r k s = refl
run_inside (until e) p r k s = run-demand (leb p e) _ k s

-- a name in a region: the blob's end is its length
pub name-until : (region : Region) (f o : ℕ) (s : List ℕ) → run (name_at region f o) s ≡ run (name_at (until (end (length s) region)) f o) s
unfolding name_at sized
name-until region f o s = go (eqb o 0)
  where
    go : (t : Bool) → run (choose t (got absent) (sized region f o)) s ≡ run (choose t (got absent) (sized (until (end (length s) region)) f o)) s
    go true = refl
    go false = simp (run_inside, run-number, run-demand)

-- a TEMP in a region
pub template_until : (region : Region) (at : ℕ) (s : List ℕ)
    → run (template_at region at) s ≡ run (template_at (until (end (length s) region)) at) s
unfolding template_at
template_until region at s = simp (run_inside, run-number, run-demand)

-- what is read behind a region, where the code was told its end, and where it was refused
module _ {A : Type 0} (r : Reading Region) (f : Region → Reading A) (s : List ℕ) where
  pub region-told : (e : ℕ) → ((region : Region) → run (f region) s ≡ run (f (until (end (length s) region))) s)
      → Ok e ≡ end_read (end (length s)) (run r s) → run (r >>= f) s ≡ run (f (until e)) s
  region-told e same h =
      let t = is_end (end (length s)) (run r s) e h in
      run-after r f s t.0 t.1 ∙ same t.0 ∙ ap (λ n. run (f (until n)) s) (sym t.2)

  pub region-refused : (x : Refusal) → Err x ≡ end_read (end (length s)) (run r s) → run (r >>= f) s ≡ refused x
  region-refused x h = run-stopped r f s x (no_end (end (length s)) (run r s) x h)
