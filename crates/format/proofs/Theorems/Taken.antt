-- The lists taken out of the lent words behind a reading are the definition's lists, entry for entry.
use Rattle.std.specs.Prelude.{ℕ, zero, suc, ◌+◌, ◌*◌, ◌≤◌, ◌<◌, ◌≡◌, true, get_or, take, drop, set, leb, eqb}
use Rattle.std.proofs.Math.Path.{refl}
use Rattle.std.proofs.Common.{ap, ap₂, sym, ◌∙◌, subst, add-zero, suc-add, add_assoc, mul_comm, mul-le-mul_right, add-one, arith, length-append, take-take, drop-drop, take_at, drop_at, length-take-le}
use mathlib.Core.List.{List, [], ◌∷◌, ◌++◌, map, append_assoc}
use Rattle.std.proofs.Math.Nat.{zero-add}
use Rattle.std.proofs.Math.ListN.{length, get_or-map}
use Rattle.std.proofs.Math.Seq.{take-nil, take-append_seam}
use Rattle.std.proofs.lemmas.List.{take-set-le}
use Rattle.std.proofs.lemmas.List.Edits.{sets, sets-eq}
use borrow.Author.Tests.{leb-true, eqb-true}
use Rattle.blob.specs.Reading.{Outcome, done, then}
use Rattle.blob.proofs.Laws.{same, both, passes, choose-done, then-done}
use Rattle.blob.specs.Laid.{laid, flat, length-laid}
use Rattle.format.specs.Area.{Row, rows, place}
use Rattle.format.specs.Crim.{Crim, crim}
use Rattle.format.specs.Lists.{Entry, lists}
use Rattle.format.specs.Answer.{own, moderate, areas, lent_enough, with_room, reading, counted, filled, held}
use Rattle.format.specs.Lookup.{entries_from, entries_of}
use Rattle.format.proofs.Theorems.Listed.{number}
use Rattle.format.proofs.Theorems.Fits.{Wide, empty, more, wide_length, lists-wide}

-- some words behind a place, out of the words up to their end
part-before : (n p : ℕ) (l : List ℕ) → take n (drop p l) ≡ drop p (take (p + n) l)
part-before n zero l = rw zero-add
part-before n (suc p) [] = simp take-nil
part-before n (suc p) (x ∷ l) = rw suc-add (part-before n p l)

-- words laid from a place on stand there, and those before it are kept
laid-sets : (a : List ℕ) (p : ℕ) (ws : List ℕ) → laid a p ws ≡ sets a p ws
unfolding laid
laid-sets a p [] = refl
laid-sets a p (w ∷ ws) = rw add-one (laid-sets (set a p w) (suc p) ws)

pub laid-here : (a : List ℕ) (p : ℕ) (ws : List ℕ) → p + length ws ≤ length a → take (length ws) (drop p (laid a p ws)) ≡ ws
laid-here a p ws h =
    ap (λ (l : List ℕ). take (length ws) (drop p l)) (laid-sets a p ws ∙ sets-eq ws a p h ∙ append_assoc (take p a) ws _)
    ∙ ap (take (length ws)) (drop_at (take p a) _ p (length-take-le p a (omega arith)))
    ∙ take-append_seam ws _

laid-before : (n : ℕ) (a : List ℕ) (p : ℕ) (ws : List ℕ) → n ≤ p → take n (laid a p ws) ≡ take n a
unfolding laid
laid-before n a p [] h = refl
laid-before n a p (w ∷ ws) h = laid-before n (set a p w) (p + 1) ws (omega arith) ∙ take-set-le n a p w h

filled-before : (n : ℕ) (words : List ℕ) (at : ℕ) (rs : List Row) (cs : List ℕ) (ls : List (List Entry)) → n ≤ at → take n (filled words at rs cs ls) ≡ take n words
unfolding filled
filled-before n words at [] cs ls h = refl
filled-before n words at (r ∷ rs) [] ls h = refl
filled-before n words at (r ∷ rs) (c ∷ cs) [] h = refl
filled-before n words at (r ∷ rs) (c ∷ cs) (l ∷ ls) h = filled-before n (laid words at (flat (λ e. e) l)) (at + c * r.words) rs cs ls (omega arith) ∙ laid-before n words at _ h

pub filled-length : (words : List ℕ) (at : ℕ) (rs : List Row) (cs : List ℕ) (ls : List (List Entry)) → length (filled words at rs cs ls) ≡ length words
unfolding filled
filled-length words at [] cs ls = refl
filled-length words at (r ∷ rs) [] ls = refl
filled-length words at (r ∷ rs) (c ∷ cs) [] = refl
filled-length words at (r ∷ rs) (c ∷ cs) (l ∷ ls) = filled-length (laid words at (flat (λ e. e) l)) (at + c * r.words) rs cs ls ∙ length-laid words at _

-- entries of one width are taken out of their words
entries-wide : {k : ℕ} {es : List Entry} → Wide k es → (at : ℕ) (ws : List ℕ) → take (length (flat (λ e. e) es)) (drop at ws) ≡ flat (λ e. e) es → entries_from k (length es) at ws ≡ es
unfolding flat entries_from
entries-wide empty at ws h = refl
entries-wide {k} (more {e} {es} w g) at ws h =
    let fl = flat (λ (e : Entry). e) es in
    let n = length fl in
    let q : take (k + n) (drop at ws) ≡ e ++ fl = ap (λ m. take m (drop at ws)) (sym (length-append e fl ∙ ap (λ m. m + n) w)) ∙ h in
    let a : take k (drop at ws) ≡ e = sym (take-take k (k + n) (drop at ws) (omega arith)) ∙ ap (take k) q ∙ take_at e fl k w in
    let b : take n (drop (at + k) ws) ≡ fl = ap (take n) (sym (drop-drop k at ws)) ∙ part-before n k (drop at ws) ∙ ap (drop k) q ∙ drop_at e fl k w in
    ap₂ (λ (x : Entry) (xs : List Entry). x ∷ xs) a (entries-wide g (at + k) ws b)

-- each list stands in its area, where it has room
held-entries : {A : Type 0} (a b : A) (rs : List Row) (cs : List ℕ) (ls : List (List Entry)) (words : List ℕ) (at : ℕ) → with_room rs cs ls a ≡ done b
    → length cs ≡ length rs → length ls ≡ length rs → at + areas rs cs ≤ length words
    → ((i : ℕ) → i < length rs → Wide (get_or (map (λ r. r.words) rs) i 0) (get_or ls i []))
    → (i : ℕ) → i < length rs
    → entries_from (get_or (map (λ r. r.words) rs) i 0) (length (get_or ls i [])) (at + areas rs (take i cs)) (filled words at rs cs ls) ≡ get_or ls i []
unfolding with_room areas filled
held-entries a b [] cs ls words at e n m h w i g = absurd (omega arith)
held-entries a b (r ∷ rs) [] ls words at e n m h w i g = absurd (omega arith)
held-entries a b (r ∷ rs) (c ∷ cs) [] words at e n m h w i g = absurd (omega arith)
held-entries a b (r ∷ rs) (c ∷ cs) (l ∷ ls) words at e n m h w zero g =
    let fl = flat (λ (e : Entry). e) l in
    let d = choose-done (leb (length l) c) (with_room rs cs ls a) _ b e in
    let k = mul-le-mul_right r.words (leb-true (length l) c d.0) in
    let f : length fl ≤ c * r.words = omega (arith, wide_length (w 0 g), mul_comm r.words (length l)) in
    rw add-zero (entries-wide (w 0 g) at _ (
    part-before (length fl) at _
    ∙ ap (drop at) (filled-before (at + length fl) (laid words at fl) (at + c * r.words) rs cs ls (omega arith))
    ∙ sym (part-before (length fl) at _)
    ∙ laid-here words at fl (omega arith)))
held-entries a b (r ∷ rs) (c ∷ cs) (l ∷ ls) words at e n m h w (suc i) g =
    let d = choose-done (leb (length l) c) (with_room rs cs ls a) _ b e in
    let k : at + c * r.words + areas rs cs ≤ length (laid words at (flat (λ (e : Entry). e) l)) = rw (length-laid) (omega arith) in
    rw (← add_assoc)
    (held-entries a b rs cs ls (laid words at (flat (λ (e : Entry). e) l)) (at + c * r.words) d.1 (omega arith) (omega arith) k (λ j q. w (suc j) (omega arith)) i (omega arith))

-- where each list has room, the value is given
room-same : {A : Type 0} (a b : A) (rs : List Row) (cs : List ℕ) (ls : List (List Entry)) → with_room rs cs ls a ≡ done b → a ≡ b
unfolding with_room
room-same a b [] cs ls e = same a b e
room-same a b (r ∷ rs) [] ls e = same a b e
room-same a b (r ∷ rs) (c ∷ cs) [] e = same a b e
room-same a b (r ∷ rs) (c ∷ cs) (l ∷ ls) e = room-same a b rs cs ls (choose-done (leb (length l) c) _ _ b e).1

-- what an accepted reading tells of what was lent and of what was read
pub record Read (bytes words capacities : List ℕ) (c : Crim) : Type 0 where
  pub lent : lent_enough capacities words ≡ true
  pub found : crim bytes ≡ done c
  pub room : with_room rows capacities (lists c.providers) c ≡ done c

pub read : (bytes words capacities : List ℕ) (c : Crim) → reading bytes words capacities ≡ done c → Read bytes words capacities c
unfolding reading
read bytes words capacities c e =
    let f : Crim → Outcome Crim = λ c. with_room rows capacities (lists c.providers) c in
    let b = choose-done (lent_enough capacities words) (then (crim bytes) f) (own 8) c (choose-done (leb (length bytes) 16777216) _ (own 7) c e).1 in
    let d = then-done (crim bytes) f c b.1 in
    let q = room-same d.0 c rows capacities (lists d.0.providers) d.2 in
    record { lent = b.0; found = d.1 ∙ ap done q; room = subst (λ x. with_room rows capacities (lists x.providers) x ≡ done c) q d.2 }

-- a row's number is that of its place
place-number : (i : ℕ) → i < length rows → place (number i) ≡ i
place-number i h = eqb-true _ _ (passes (length rows) (λ i. eqb (place (number i)) i) refl i h)

-- An accepted reading, with a capacity for each list.
module _ (bytes words capacities : List ℕ) (c : Crim) (e : reading bytes words capacities ≡ done c) (n : length capacities ≡ length rows) where
  pub taken : (i : ℕ) → i < length rows
      → entries_of (held words capacities (done c)) capacities (counted (lists c.providers)) (number i) ≡ get_or (lists c.providers) i []
  unfolding held lists
  taken i h =
      let r = read bytes words capacities c e in
      let ls = lists c.providers in
      let k = leb-true (areas rows capacities) (length words) (both (moderate capacities) _ r.lent).1 in
      rw (place-number i h, get_or-map (λ (l : List Entry). length l) ls i [], ← zero-add (areas rows (take i capacities)))
      (held-entries c c rows capacities ls words 0 r.room n refl (omega arith) (lists-wide c.providers) i h)
