-- A longer block never shifts an old figure: a second blob of CRIM.size m, at least the first's n, that agrees with an accepted one on
-- every byte that its reading rests on, bytes 4 to 7 excepted, is accepted with the same lists, given room; and m is n if the reading
-- takes any of those four bytes for anything besides CRIM.size.
use Prim.{tt}
use Rattle.std.specs.Prelude.{ℕ, zero, suc, ◌+◌, ◌≤◌, ◌<◌, ◌≡◌, refl, Bool, true, false, List, [], ◌∷◌, ◌++◌, length, take, leb}
use Rattle.std.proofs.Common.{ap, ◌∙◌, subst, arith, length-take-le, le-leb, leb-true, leb-false, eq-eqb}
use Rattle.std.proofs.Math.Path.{sym}
use Rattle.std.proofs.Math.ListN.{get_or}
use Rattle.std.proofs.Math.Seq.{get_or-take}
use Rattle.blob.specs.Le.{le}
use Rattle.blob.specs.Places.{Each, span}
use Rattle.blob.specs.Reading.{done, demand, run, places, then}
use Rattle.blob.proofs.Laws.{run-number, then-done, choose-done}
use Rattle.blob.proofs.Longer.{Agree, longer}
use Rattle.format.specs.Crim.{CRIM, Crim, header, providers_of, crim}
use Rattle.format.specs.Area.{Row, rows}
use Rattle.format.specs.Lists.{Entry, lists}
use Rattle.format.specs.Answer.{moderate, areas, lent_enough, with_room, reading, counted, answer, filled, held}
use Rattle.format.specs.Rests.{providers_bytes, rests_on}
use Rattle.format.specs.Theorems.Block.{SizeByte, Longer, Within, Room}
use Rattle.format.proofs.Theorems.Rested.{Headed, Read, crim-read, asked, asked_inside, headed, n-bytes}

header-run : (s : List ℕ) → le 4 s 0 ≡ CRIM → 16 ≤ le 4 s 4 → le 4 s 4 ≤ length s
    → run header s ≡ done (record { size = le 4 s 4; major = le 2 s 8; minor = le 2 s 10; count = le 4 s 12 })
unfolding header run demand
header-run s sig least fits =
    simp (run-number, le-leb 4 (length s) (omega arith), le-leb 8 (length s) (omega arith), le-leb 10 (length s) (omega arith), le-leb 12 (length s) (omega arith), le-leb 16 (length s) (omega arith), eq-eqb (le 4 s 0) CRIM sig, le-leb 16 (le 4 s 4) least, le-leb (le 4 s 4) (length s) fits)

-- 9 changes nothing else
with_room-same : {A : Type 0} (rs : List Row) (cs : List ℕ) (ls : List (List Entry)) (a b : A) → with_room rs cs ls a ≡ done b → done a ≡ done b
unfolding with_room
with_room-same [] cs ls a b e = e
with_room-same (r ∷ rs) [] ls a b e = e
with_room-same (r ∷ rs) (c ∷ cs) [] a b e = e
with_room-same (r ∷ rs) (c ∷ cs) (l ∷ ls) a b e = with_room-same rs cs ls a b (choose-done (leb (length l) c) _ _ b e).1

with_room-fits : {A : Type 0} (rs : List Row) (cs : List ℕ) (ls : List (List Entry)) (a : A) → Within cs ls → with_room rs cs ls a ≡ done a
unfolding with_room
with_room-fits [] cs ls a w = refl
with_room-fits (r ∷ rs) [] ls a w = refl
with_room-fits (r ∷ rs) (c ∷ cs) [] a w = refl
with_room-fits (r ∷ rs) (c ∷ cs) (l ∷ ls) a w = rw (le-leb (length l) c w.0) (with_room-fits rs cs ls a w.1)

moderate-each : (cs : List ℕ) → Each (λ c. c ≤ 65536) cs → moderate cs ≡ true
unfolding moderate
moderate-each [] h = refl
moderate-each (c ∷ cs) h = rw (le-leb c 65536 h.0) (moderate-each cs h.1)

-- an accepted reading read its bytes as a CRIM block
pub reading-crim : (s words : List ℕ) (capacities : List ℕ) (c : Crim) → reading s words capacities ≡ done c → crim s ≡ done c
unfolding reading
reading-crim s words capacities c e =
    let o = (choose-done (leb (length s) 16777216) _ _ c e).1 in
    let h = then-done _ _ c (choose-done (lent_enough capacities words) _ _ c o).1 in
    h.1 ∙ with_room-same rows capacities _ _ c h.2

-- bytes of a list, and of a number
pub byte_at : (s : List ℕ) (p : ℕ) → Each (λ b. b < 256) s → get_or s p 0 < 256
byte_at [] p h = omega arith
byte_at (b ∷ s) zero h = h.0
byte_at (b ∷ s) (suc p) h = byte_at s p h.1

-- two lists agree on the bytes from p up to e
abbrev Alike : List ℕ → List ℕ → ℕ → ℕ → Type 0
Alike s t p e = (q : ℕ) → p ≤ q → q < e → get_or t q 0 ≡ get_or s q 0

-- at p, or past it
at-or_past : (P : ℕ → Type 0) (p q : ℕ) → p ≤ q → P p → (p + 1 ≤ q → P q) → P q
at-or_past P p q h here past = go (leb (p + 1) q) refl
  where
    go : (t : Bool) → leb (p + 1) q ≡ t → P q
    go true e = past (leb-true (p + 1) q e)
    go false e = let z : p ≡ q = omega (arith, leb-false (p + 1) q e) in subst P z here

-- a number says its bytes, and they say it
le_bytes : (w p : ℕ) (s t : List ℕ) → Each (λ b. b < 256) s → Each (λ b. b < 256) t → le w t p ≡ le w s p → Alike s t p (p + w)
unfolding le
le_bytes zero p s t hs ht e q h g = absurd (omega arith)
le_bytes (suc w) p s t hs ht e q h g =
    at-or_past (λ q. get_or t q 0 ≡ get_or s q 0) p q h (omega (arith, byte_at s p hs, byte_at t p ht))
    (λ k. le_bytes w (p + 1) s t hs ht (omega (arith, byte_at s p hs, byte_at t p ht)) q k (omega arith))

le-alike : (w p : ℕ) (s t : List ℕ) → Alike s t p (p + w) → le w t p ≡ le w s p
unfolding le
le-alike zero p s t h = refl
le-alike (suc w) p s t h = rw (h p (omega arith) (omega arith), le-alike w (p + 1) s t (λ q a b. h q (omega arith) (omega arith)))

each-span : (P : ℕ → Type 0) (w p q : ℕ) (ps : List ℕ) → Each P (span p w ++ ps) → p ≤ q → q < p + w → P q
unfolding span
each-span P zero p q ps h a b = absurd (omega arith)
each-span P (suc w) p q ps h a b = at-or_past P p q a h.0 (λ k. each-span P w (p + 1) q ps h.1 k (omega arith))

each_second : (P : ℕ → Type 0) (ps qs : List ℕ) → Each P (ps ++ qs) → Each P qs
each_second P [] qs h = h
each_second P (p ∷ ps) qs h = each_second P ps qs h.1

each_of : (P Q R S : ℕ → Type 0) (ps : List ℕ) → ((p : ℕ) → P p → Q p → R p → S p) → Each P ps → Each Q ps → Each R ps → Each S ps
each_of P Q R S [] f hp hq hr = tt
each_of P Q R S (p ∷ ps) f hp hq hr = (f p hp.0 hq.0 hr.0, each_of P Q R S ps f hp.1 hq.1 hr.1)

-- the same block with the second's size
abbrev resized : List ℕ → Crim → Crim
resized second c =
    record { header = record { size = le 4 second 4; major = c.header.major; minor = c.header.minor; count = c.header.count }; providers = c.providers }

module _ (first second : List ℕ) (c : Crim) (read : Read first c) (l : Longer first second c) where
  abbrev n : ℕ
  n = c.header.size

  abbrev m : ℕ
  m = le 4 second 4

  abbrev same_byte : ℕ → Type 0
  same_byte p = get_or second p 0 ≡ get_or first p 0

  m-bytes : length (take m second) ≡ m
  m-bytes = length-take-le m second l.wholly

  head : Headed first c.header (places header first)
  head = headed first c read

  -- the header's bytes but 4 to 7
  head-alike : (p w : ℕ) → p + w ≤ 16 → ((q : ℕ) → p ≤ q → q < p + w → SizeByte q → ⊥) → Alike first second p (p + w)
  unfolding rests_on
  head-alike p w h apart q a b = each-span (λ p. (SizeByte p → ⊥) → same_byte p) 16 0 q (providers_bytes c.providers) l.agrees (omega arith) (omega arith) (apart q a b)

  second-headed : run header second ≡ done (resized second c).header
  second-headed =
      let sig : le 4 second 0 ≡ le 4 first 0 = le-alike 4 0 first second (head-alike 0 4 (omega arith) (λ q a b z. omega (arith, z.0))) in
      let major : le 2 second 8 ≡ c.header.major = le-alike 2 8 first second (head-alike 8 2 (omega arith) (λ q a b z. omega (arith, z.1))) ∙ sym head.major in
      let minor : le 2 second 10 ≡ c.header.minor = le-alike 2 10 first second (head-alike 10 2 (omega arith) (λ q a b z. omega (arith, z.1))) ∙ sym head.minor in
      let count : le 4 second 12 ≡ c.header.count = le-alike 4 12 first second (head-alike 12 4 (omega arith) (λ q a b z. omega (arith, z.1))) ∙ sym head.count in
      rw (← major, ← minor, ← count) (header-run second (sig ∙ head.signature) (omega (arith, head.least, l.longer)) l.wholly)

  -- a byte of the rest, also where it is one of 4 to 7
  byte-alike : (p : ℕ) → ((SizeByte p → ⊥) → same_byte p) → (SizeByte p → m ≡ n) → same_byte p
  byte-alike p apart taken = go (leb 4 p) (leb p 7) refl refl
    where
      go : (a b : Bool) → leb 4 p ≡ a → leb p 7 ≡ b → same_byte p
      go true true ea eb =
          le_bytes 4 4 first second l.bytes_first l.bytes_second (taken (leb-true 4 p ea, leb-true p 7 eb) ∙ head.size) p (leb-true 4 p ea) (omega (arith, leb-true p 7 eb))
      go true false ea eb = apart (λ z. omega (arith, z.1, leb-false p 7 eb))
      go false b ea eb = apart (λ z. omega (arith, z.0, leb-false 4 p ea))

  body-agrees : Agree (take n first) (take m second) (providers_bytes c.providers)
  unfolding rests_on
  body-agrees =
      each_of (λ p. p < n) (λ p. (SizeByte p → ⊥) → same_byte p) (λ p. SizeByte p → m ≡ n) (λ p. get_or (take m second) p 0 ≡ get_or (take n first) p 0)
      (providers_bytes c.providers) (λ p i a t.
      get_or-take m second p 0 (omega (arith, l.longer)) ∙ byte-alike p a t ∙ sym (get_or-take n first p 0 i))
      (asked_inside first c read) (each_second (λ p. (SizeByte p → ⊥) → same_byte p) (span 0 16) (providers_bytes c.providers) l.agrees) l.taken

  second-provided : run (providers_of c.header) (take m second) ≡ done c.providers
  second-provided =
      longer (providers_of c.header) (take n first) (take m second) c.providers (omega (arith, n-bytes first c read, m-bytes, l.longer))
      (subst (Agree (take n first) (take m second)) (sym (asked first c read)) body-agrees) read.provided

  second-crim : crim second ≡ done (resized second c)
  unfolding crim then providers_of
  second-crim = simp (second-headed, second-provided)

-- the demand, whole
pub longer_block : (first words : List ℕ) (capacities : List ℕ) (c : Crim) → reading first words capacities ≡ done c
    → (second words' : List ℕ) (capacities' : List ℕ) → Longer first second c → Room words' capacities' (lists c.providers)
    → (c' : Crim) × (reading second words' capacities' ≡ done c') × (lists c'.providers ≡ lists c.providers)
unfolding reading then
longer_block first words capacities c e second words' capacities' l r =
    let read = crim-read first c (reading-crim first words capacities c e) in
    (resized second c, simp (le-leb (length second) 16777216 l.at_most, moderate-each capacities' r.moderate, le-leb (areas rows capacities') (length words') r.enough, second-crim first second c read l, with_room-fits rows capacities' (lists c.providers) (resized second c) r.within), refl)

-- the same in the terms of a reading's contract: the same counts are answered, and the lent words hold the same lists
pub longer_read : (first words : List ℕ) (capacities : List ℕ) (c : Crim) → reading first words capacities ≡ done c
    → (second words' : List ℕ) (capacities' : List ℕ) → Longer first second c → Room words' capacities' (lists c.providers)
    → ((answer (reading second words' capacities')).code ≡ 0)
    × ((answer (reading second words' capacities')).counts ≡ (answer (reading first words capacities)).counts)
    × (held words capacities (reading first words capacities) ≡ filled words 0 rows capacities (lists c.providers))
    × (held words' capacities' (reading second words' capacities') ≡ filled words' 0 rows capacities' (lists c.providers))
unfolding answer held
longer_read first words capacities c e second words' capacities' l r =
    let x = longer_block first words capacities c e second words' capacities' l r in
    rw (e, x.1) (refl, ap counted x.2, refl, ap (filled words' 0 rows capacities') x.2)
