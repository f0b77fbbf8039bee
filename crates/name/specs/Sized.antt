-- What each test of a sized name decides, in the order of the tests.
use Rattle.std.specs.Prelude.{ℕ, ◌+◌, ◌-◌, ◌/◌, ◌%◌, ◌≤◌, ◌<◌, ◌≡◌, refl, List, Bool, true, false, leb, eqb, Ok, Err}
use Rattle.std.proofs.Common.{ap, ◌∙◌, arith}
use Rattle.std.proofs.Math.Path.{sym}
use borrow.Author.Tests.{le-leb, lt-leb, leb-true, eq-eqb, ne_eqb}
use Rattle.blob.specs.declared.Refusal.{Refusal}
use Rattle.blob.specs.Le.{le}
use Rattle.blob.proofs.Laws.{never, fine-value, run-number, run_holds, run-fails}
use Rattle.blob.specs.Reading.{Fault, Reading, done, refused, demand, run, verdict}
use Rattle.format.specs.Refuse.{truncated, size_out, offset_out, not_utf16}
use Rattle.format.specs.Region.{until, inside}
use Rattle.format.specs.Name.{text, sized, name_at}

-- a test before what is found holds
demand-done : {A : Type 0} (t : Bool) (r : Fault) (k : Reading A) (s : List ℕ) (a : A) → run (demand t r k) s ≡ done a → (t ≡ true) × (run k s ≡ done a)
unfolding run demand
demand-done true r k s a h = (refl, h)
demand-done false r k s a h = absurd (never _ _ h)

module _ (e f o : ℕ) (s : List ℕ) where
  -- a name whose offset is not 0 is there
  pub present : (o ≡ 0 → ⊥) → run (name_at (until e) f o) s ≡ run (sized (until e) f o) s
  unfolding name_at
  present h = rw (ne_eqb o 0 h)

  pub refuses : (x y : Refusal) → x ≡ y → run (sized (until e) f o) s ≡ refused y → Err x ≡ verdict (run (sized (until e) f o) s)
  refuses x y a g = ap Err a ∙ sym (ap verdict g)

  -- the size of a name that is fine is right, and it is its text
  pub sized-fine : (size : ℕ) → size ≡ le 4 s o → (o ≡ 0 → ⊥) → verdict (run (name_at (until e) f o) s) ≡ Ok tt
      → (4 ≤ size) × (o + size ≤ e) × (run (name_at (until e) f o) s ≡ run (text f o ((size - 4) / 2) (o + 4) 0 false) s)
  unfolding sized inside
  sized-fine size z h v =
      let n = fine-value _ (sym (ap verdict (present h)) ∙ v) in
      let start = demand-done _ _ _ s _ n.1 in
      let word = demand-done _ _ _ s _ start.1 in
      let least = demand-done _ _ _ s _ (sym (run-number _ _ _ s) ∙ word.1) in
      let most = demand-done _ _ _ s _ least.1 in
      let even = demand-done _ _ _ s _ most.1 in
      rw z (leb-true _ _ least.0, leb-true _ _ most.0, present h ∙ n.1 ∙ sym even.1)

  pub sized_past : e < o → run (sized (until e) f o) s ≡ refused ((offset_out f o).told e)
  unfolding sized inside
  sized_past h = run-fails _ _ _ _ (lt-leb _ _ h)

  pub sized-cut : o ≤ e → e < o + 4 → run (sized (until e) f o) s ≡ refused ((truncated f o 4).told e)
  unfolding sized inside
  sized-cut h g = run_holds _ _ _ _ (le-leb _ _ h) ∙ run-fails _ _ _ _ (lt-leb _ _ g)

  module _ (size : ℕ) (z : size ≡ le 4 s o) (h : o + 4 ≤ e) where
    -- where the size word is there, its tests are left
    behind :
        run (sized (until e) f o) s
        ≡ run (demand (leb 4 size) (size_out f o size) (inside (until e) (o + size) (truncated f o size)
        (demand (eqb (size % 2) 0) (not_utf16 f o) (text f o ((size - 4) / 2) (o + 4) 0 false)))) s
    unfolding sized inside
    behind = run_holds _ _ _ _ (le-leb o e (omega arith)) ∙ run_holds _ _ _ _ (le-leb _ _ h) ∙ run-number _ _ _ _ ∙ rw z

    pub sized-small : size < 4 → run (sized (until e) f o) s ≡ refused ((size_out f o size).told 0)
    sized-small g = behind ∙ run-fails _ _ _ _ (lt-leb _ _ g)

    module _ (g : 4 ≤ size) where
      pub sized-short : e < o + size → run (sized (until e) f o) s ≡ refused ((truncated f o size).told e)
      unfolding inside
      sized-short w = behind ∙ run_holds _ _ _ _ (le-leb _ _ g) ∙ run-fails _ _ _ _ (lt-leb _ _ w)

      module _ (w : o + size ≤ e) where
        pub sized-odd : (size % 2 ≡ 0 → ⊥) → run (sized (until e) f o) s ≡ refused ((not_utf16 f o).told 0)
        unfolding inside
        sized-odd t = behind ∙ run_holds _ _ _ _ (le-leb _ _ g) ∙ run_holds _ _ _ _ (le-leb _ _ w) ∙ run-fails _ _ _ _ (ne_eqb _ _ t)

        pub sized-text : size % 2 ≡ 0 → run (sized (until e) f o) s ≡ run (text f o ((size - 4) / 2) (o + 4) 0 false) s
        unfolding inside
        sized-text t = behind ∙ run_holds _ _ _ _ (le-leb _ _ g) ∙ run_holds _ _ _ _ (le-leb _ _ w) ∙ run_holds _ _ _ _ (eq-eqb _ _ t)
