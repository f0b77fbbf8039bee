-- The order of the refusals: 7 before all, then 8, then what the bytes are refused for, and 9 only for bytes that are accepted.
use Rattle.std.specs.Prelude.{ℕ, ◌≤◌, ◌<◌, ◌≡◌, true, false, List, ◌∷◌, length}
use Rattle.std.proofs.Common.{le-leb}
use Rattle.std.proofs.lemmas.Bool.{lt-leb}
use Rattle.blob.specs.declared.Refusal.{Refusal}
use Rattle.blob.specs.Reading.{done, refused, then}
use Rattle.format.specs.Crim.{Crim, crim}
use Rattle.format.specs.Area.{Row, rows}
use Rattle.format.specs.Lists.{Entry, lists}
use Rattle.format.specs.Answer.{own, too_small, lent_enough, with_room, reading}

module _ (bytes words : List ℕ) (capacities : List ℕ) where
  pub seven_first : 16777216 < length bytes → reading bytes words capacities ≡ refused (own 7)
  unfolding reading
  seven_first h = rw (lt-leb (length bytes) 16777216 h)

  module _ (h : length bytes ≤ 16777216) where
    pub eight_next : lent_enough capacities words ≡ false → reading bytes words capacities ≡ refused (own 8)
    unfolding reading
    eight_next e = rw (le-leb (length bytes) 16777216 h, e)

    module _ (e : lent_enough capacities words ≡ true) where
      pub bytes_next : (r : Refusal) → crim bytes ≡ refused r → reading bytes words capacities ≡ refused r
      unfolding reading then
      bytes_next r g = rw (le-leb (length bytes) 16777216 h, e, g)

      pub nine_last : (c : Crim) → crim bytes ≡ done c → reading bytes words capacities ≡ with_room rows capacities (lists c.providers) c
      unfolding reading then
      nine_last c g = rw (le-leb (length bytes) 16777216 h, e, g)

-- 9 names a list only where those before it have room
pub nine_here : {A : Type 0} (r : Row) (rs : List Row) (c : ℕ) (cs : List ℕ) (l : List Entry) (ls : List (List Entry)) (a : A) → c < length l
    → with_room (r ∷ rs) (c ∷ cs) (l ∷ ls) a ≡ refused (too_small r.number c)
unfolding with_room
nine_here r rs c cs l ls a h = rw (lt-leb (length l) c h)

pub nine_later : {A : Type 0} (r : Row) (rs : List Row) (c : ℕ) (cs : List ℕ) (l : List Entry) (ls : List (List Entry)) (a : A) → length l ≤ c
    → with_room (r ∷ rs) (c ∷ cs) (l ∷ ls) a ≡ with_room rs cs ls a
unfolding with_room
nine_later r rs c cs l ls a h = rw (le-leb (length l) c h)
