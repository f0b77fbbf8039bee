-- What the needs are for: lent just that, where it can be lent, a block that is accepted has room, and none of its lists is too small.
use Rattle.std.specs.Prelude.{ℕ, ◌≤◌, true, ◌≡◌, refl, List, [], ◌∷◌, map, length, leb}
use Rattle.std.proofs.Common.{arith, le-leb, leb-true}
use Rattle.blob.specs.Reading.{done, then}
use Rattle.blob.proofs.Laws.{both, choose-done}
use Rattle.format.specs.Crim.{Crim, crim}
use Rattle.format.specs.Area.{Row, rows}
use Rattle.format.specs.Lists.{Entry, lists}
use Rattle.format.specs.Answer.{moderate, lent_enough, with_room, reading, block, capped, answer, needing}

-- lists that are lent as many entries as they need, none of them past 65,536
lent-needs : {A : Type 0} (rs : List Row) (ls : List (List Entry)) (a : A) → moderate (map (λ l. capped (length l)) ls) ≡ true
    → with_room rs (map (λ l. capped (length l)) ls) ls a ≡ done a
unfolding with_room moderate
lent-needs [] ls a m = refl
lent-needs (r ∷ rs) [] a m = refl
lent-needs (r ∷ rs) (l ∷ ls) a m =
    let k = leb-true (capped (length l)) 65536 (both _ _ m).0 in
    let i : length l ≤ capped (length l) = omega arith in
    rw (le-leb _ _ i) (lent-needs rs ls a (both (leb (capped (length l)) 65536) _ m).1)

pub needs_suffice : (bytes words : List ℕ) (c : Crim) → block bytes ≡ done c → lent_enough (needing (done c)).counts words ≡ true
    → reading bytes words (needing (done c)).counts ≡ done c
unfolding reading block needing answer lists then
needs_suffice bytes words c e l =
    let d = choose-done (leb (length bytes) 16777216) (crim bytes) _ c e in
    rw (d.0, l, d.1) (lent-needs rows (lists c.providers) c (both _ _ l).0)
