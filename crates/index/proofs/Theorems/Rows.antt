-- Numbers in a row: they are read at a place exactly where their forms lie there, one after another.
use Prim.{Unit, tt}
use Prim.Native.Nat.{ℕ, zero, suc, ◌+◌, ◌≤◌, ◌<◌}
use Rattle.std.specs.Prelude.{◌≡◌, refl, length, drop}
use Rattle.std.proofs.Common.{ap, sym, ◌∙◌, length-append, drop-drop}
use mathlib.Core.List.{List, [], ◌∷◌, ◌++◌, map, append_assoc, append-nil}
use native.Mathlib.Omega.{arith}
use Rattle.std.proofs.lemmas.List.{length-map}
use Rattle.std.proofs.Math.Seq.{drop-append_seam, drop-length}
use Rattle.blob.specs.Reading.{done, then}
use Rattle.blob.proofs.Laws.{same, then-done}
use Rattle.blob.specs.Laid.{flat, flat_append, flat-single, flat_map}
use Rattle.blob.specs.Places.{Each}
use Rattle.format.proofs.Theorems.Known.{All}
use Rattle.number.specs.Number.{LONGEST, WORD, LONG, upto, form, number_at}
use Rattle.number.specs.Scan.{number_of}
use Rattle.number.proofs.Scan.{was_read, is_read}
use Rattle.number.proofs.Forms.{has-form, says, stops, slim, was_written}
use Rattle.number.specs.declared.Number.{Number}
use Rattle.index.specs.Index.{ONE, Row, row_at, Rows, rows_at}

-- a number for each width, and none past it
abbrev pub Within : List ℕ → List ℕ → Type 0
Within [] [] = Unit {0}
Within [] (n ∷ ns) = ⊥
Within (w ∷ ws) [] = ⊥
Within (w ∷ ws) (n ∷ ns) = (n ≤ w) × Within ws ns

-- some bytes, from a place of others up to another place
pub record Lies (bytes : List ℕ) (at : ℕ) (xs : List ℕ) (behind : ℕ) : Type 0 where
  pub shown : drop at bytes ≡ xs ++ drop behind bytes
  pub ends : behind ≡ at + length xs

module _ {bytes : List ℕ} where
  pub lies_then : {at mid behind : ℕ} {xs ys : List ℕ} → Lies bytes at xs mid → Lies bytes mid ys behind → Lies bytes at (xs ++ ys) behind
  lies_then {at} {mid} {behind} {xs} {ys} a b =
      record { shown = a.shown ∙ ap (λ (l : List ℕ). xs ++ l) b.shown ∙ sym (append_assoc xs ys _); ends = rw length-append (omega arith) }

  pub lies_split : {at behind : ℕ} (xs ys : List ℕ) → Lies bytes at (xs ++ ys) behind → Lies bytes at xs (at + length xs) × Lies bytes (at + length xs) ys behind
  lies_split {at} {behind} xs ys l =
      let s = l.shown ∙ append_assoc xs ys (drop behind bytes) in
      let r : drop (at + length xs) bytes ≡ ys ++ drop behind bytes = sym (drop-drop (length xs) at bytes) ∙ ap (drop (length xs)) s ∙ drop-append_seam xs _ in
      (record { shown = rw r s; ends = refl }, record { shown = r; ends = l.ends ∙ rw length-append (omega arith) })

module _ (bytes : List ℕ) where
  pub lies_all : Lies bytes 0 bytes (length bytes)
  lies_all = record { shown = rw drop-length (sym (append-nil bytes)); ends = omega arith }

  pub lies_none : (at : ℕ) → Lies bytes at [] at
  lies_none at = record { shown = refl; ends = omega arith }

  -- a number
  form-here : (at n : ℕ) (rest : List ℕ) → n ≤ LONG → drop at bytes ≡ form n ++ rest → number_of bytes at ≡ form n
  form-here at n rest h e = ap (upto LONGEST) e ∙ stops LONGEST n rest (has-form n h)

  pub number-back : (w at n behind : ℕ) → w ≤ LONG → n ≤ w → Lies bytes at (form n) behind → number_at w bytes at ≡ done (record { value = n; behind = behind })
  number-back w at n behind g h l =
      let s = form-here at n _ (omega arith) l.shown in
      let e = has-form n (omega arith) in
      let v = says LONGEST n e in
      is_read w bytes at _ record { ends = rw s e; slim = rw s (slim LONGEST n e); fits = rw (s, v) h; shown = rw (s, v, l.ends) }

  pub number-found : (w at : ℕ) (n : Number) → w ≤ LONG → Each (λ b. b < 256) bytes → number_at w bytes at ≡ done n
      → (n.value ≤ w) × Lies bytes at (form n.value) n.behind
  number-found w at n g b e =
      let r = was_read w bytes at n e in
      let h : n.value ≤ w = rw r.shown r.fits in
      let s = was_written w bytes at n b e in
      (h, record { shown = s; ends = ap (λ (m : Number). m.behind) r.shown ∙ ap (λ (l : List ℕ). at + length l) (form-here at n.value _ (omega arith) s) })

  -- one row of them
  pub row_back : (ws ns : List ℕ) (at behind : ℕ) → Each (λ w. w ≤ LONG) ws → Within ws ns → Lies bytes at (flat form ns) behind
      → row_at ws bytes at ≡ done (record { numbers = ns; behind = behind })
  unfolding row_at flat then
  row_back [] [] at behind g h l = let e : at ≡ behind = omega arith in rw e
  row_back [] (n ∷ ns) at behind g h l = absurd h
  row_back (w ∷ ws) [] at behind g h l = absurd h
  row_back (w ∷ ws) (n ∷ ns) at behind g h l =
      let s = lies_split (form n) (flat form ns) l in
      rw (number-back w at n _ g.0 h.0 s.0, row_back ws ns _ behind g.1 h.1 s.1)

  pub row-found : (ws : List ℕ) (at : ℕ) (r : Row) → Each (λ w. w ≤ LONG) ws → Each (λ b. b < 256) bytes → row_at ws bytes at ≡ done r
      → Within ws r.numbers × Lies bytes at (flat form r.numbers) r.behind
  unfolding row_at flat
  row-found [] at r g b e = rw (← same _ _ e) (tt, lies_none at)
  row-found (w ∷ ws) at r g b e =
      let n = then-done (number_at w bytes at) _ r e in
      let m = then-done (row_at ws bytes n.0.behind) _ r n.2 in
      let x = number-found w at n.0 g.0 b n.1 in
      let y = row-found ws _ m.0 g.1 b m.1 in
      rw (← same _ _ m.2) ((x.0, y.0), lies_then x.1 y.1)

  -- so many rows
  pub rows_back : (ws : List ℕ) (rs : List (List ℕ)) (at behind : ℕ) → Each (λ w. w ≤ LONG) ws → All (Within ws) rs → Lies bytes at (flat form (flat (λ r. r) rs)) behind
      → rows_at (length rs) ws bytes at ≡ done (record { rows = rs; behind = behind })
  unfolding rows_at flat then
  rows_back ws [] at behind g h l = let e : at ≡ behind = omega arith in rw e
  rows_back ws (r ∷ rs) at behind g h l =
      let s = lies_split (flat form r) (flat form (flat (λ (r : List ℕ). r) rs)) (rw flat_append at l) in
      rw (row_back ws r at _ g h.0 s.0, rows_back ws rs _ behind g h.1 s.1)

  pub rows-found : (n : ℕ) (ws : List ℕ) (at : ℕ) (rs : Rows) → Each (λ w. w ≤ LONG) ws → Each (λ b. b < 256) bytes → rows_at n ws bytes at ≡ done rs
      → (length rs.rows ≡ n) × All (Within ws) rs.rows × Lies bytes at (flat form (flat (λ r. r) rs.rows)) rs.behind
  unfolding rows_at flat
  rows-found zero ws at rs g b e = rw (← same _ _ e) (refl, tt, lies_none at)
  rows-found (suc n) ws at rs g b e =
      let r = then-done (row_at ws bytes at) _ rs e in
      let m = then-done (rows_at n ws bytes r.0.behind) _ rs r.2 in
      let x = row-found ws at r.0 g b r.1 in
      let y = rows-found n ws _ m.0 g b m.1 in
      rw (← same _ _ m.2) (ap suc y.0, (x.0, y.1), rw flat_append (lies_then x.1 y.2))

-- Words by themselves are rows of one.
abbrev pub singles : List ℕ → List (List ℕ)
singles ns = map (λ n. n ∷ []) ns

pub singles-flat : (ns : List ℕ) → flat (λ r. r) (singles ns) ≡ ns
singles-flat ns = flat_map (λ r. r) (λ n. n ∷ []) ns ∙ flat-single ns

singles-within : (ns : List ℕ) → Each (λ n. n ≤ WORD) ns → All (Within ONE) (singles ns)
singles-within [] h = tt
singles-within (n ∷ ns) h = ((h.0, tt), singles-within ns h.1)

ones : (rs : List (List ℕ)) → All (Within ONE) rs → (length (flat (λ r. r) rs) ≡ length rs) × Each (λ n. n ≤ WORD) (flat (λ r. r) rs)
unfolding flat
ones [] h = (refl, tt)
ones ([] ∷ rs) h = absurd h.0
ones ((n ∷ []) ∷ rs) h = let r = ones rs h.1 in (ap suc r.0, (h.0.0, r.1))
ones ((n ∷ m ∷ ns) ∷ rs) h = absurd h.0.1

module _ (bytes : List ℕ) where
  pub words_back : (ns : List ℕ) (at behind : ℕ) → Each (λ n. n ≤ WORD) ns → Lies bytes at (flat form ns) behind
      → rows_at (length ns) ONE bytes at ≡ done (record { rows = singles ns; behind = behind })
  words_back ns at behind h l = rw (← length-map ns (λ (n : ℕ). n ∷ [])) (rows_back bytes ONE (singles ns) at behind (omega arith) (singles-within ns h) (rw singles-flat l))

  pub words-found : (n at : ℕ) (rs : Rows) → Each (λ b. b < 256) bytes → rows_at n ONE bytes at ≡ done rs → (let ns = flat (λ (r : List ℕ). r) rs.rows in
      (length ns ≡ n) × Each (λ n. n ≤ WORD) ns × Lies bytes at (flat form ns) rs.behind)
  words-found n at rs b e =
      let r = rows-found bytes n ONE at rs (omega arith) b e in
      let o = ones rs.rows r.1 in
      (o.0 ∙ r.0, o.1, r.2)
