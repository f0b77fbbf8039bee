-- What is written in each list behind some tables and providers: there are as many numbers as before, and none is less.
use Rattle.std.specs.Prelude.{ℕ, zero, suc, ◌+◌, ◌≤◌, ◌≡◌, refl, List, [], ◌∷◌, ◌++◌, Bool, true, false, eqb, length, get_or, set}
use Rattle.std.proofs.Common.{ap, sym, ◌∙◌, add-zero, arith, length-set}
use Rattle.blob.specs.Reading.{choose}
use Rattle.blob.specs.Laid.{flat}
use Rattle.format.specs.Area.{TABLES, MAPS, ITEMS}
use Rattle.format.specs.Provider.{Table, Provider}
use Rattle.format.specs.Lists.{kept}
use Rattle.format.specs.Steps.Parts.{passed, behind, behind_all, passed_all}

-- what holds of each of two holds of the one that is chosen
pub choose-either : {A : Type 0} (t : Bool) (P : A → Type 0) {a b : A} → P a → P b → P (choose t a b)
choose-either true P g h = g
choose-either false P g h = h

pub behind_all-append : (l : ℕ) (before : List ℕ) (ts us : List Table) → behind_all l before (ts ++ us) ≡ behind_all l (behind_all l before ts) us
unfolding behind_all
behind_all-append l before [] us = refl
behind_all-append l before (t ∷ ts) us = behind_all-append l (behind l before t) ts us

-- a list that counts nothing
pub behind_all-same : (l : ℕ) → ((b : List ℕ) (t : Table) → behind l b t ≡ b) → (before : List ℕ) (ts : List Table) → behind_all l before ts ≡ before
unfolding behind_all
behind_all-same l same before [] = refl
behind_all-same l same before (t ∷ ts) = ap (λ (b : List ℕ). behind_all l b ts) (same before t) ∙ behind_all-same l same before ts

-- there are as many numbers as before
behind-length : (l : ℕ) (before : List ℕ) (t : Table) → length (behind l before t) ≡ length before
behind-length l before t =
    let P : List ℕ → Type 0 = λ (ns : List ℕ). length ns ≡ length before in
    choose-either (eqb l TABLES) P (length-set before _ _) (choose-either (eqb l MAPS) P (length-set before _ _) (choose-either (eqb l ITEMS) P (length-set before _ _) refl))

pub behind_all-length : (l : ℕ) (before : List ℕ) (ts : List Table) → length (behind_all l before ts) ≡ length before
unfolding behind_all
behind_all-length l before [] = refl
behind_all-length l before (t ∷ ts) = behind_all-length l (behind l before t) ts ∙ behind-length l before t

-- some providers' tables are passed one after another
pub passed_all-tables : (l : ℕ) (before : List ℕ) (ps : List Provider) → passed_all l before ps ≡ behind_all l before (flat (λ p. kept p.elements) ps)
unfolding passed_all behind_all flat
passed_all-tables l before [] = refl
passed_all-tables l before (p ∷ ps) = passed_all-tables l (passed l before p) ps ∙ sym (behind_all-append l before (kept p.elements) _)

-- none more changes nothing
pub set_same : (ns : List ℕ) (i : ℕ) → set ns i (get_or ns i 0 + 0) ≡ ns
set_same [] i = refl
set_same (n ∷ ns) zero = simp add-zero
set_same (n ∷ ns) (suc i) = ap (λ (l : List ℕ). n ∷ l) (set_same ns i)

more-grows : (ns : List ℕ) (j n i : ℕ) → get_or ns i 0 ≤ get_or (set ns j (get_or ns j 0 + n)) i 0
more-grows [] j n i = omega arith
more-grows (m ∷ ns) zero n zero = omega arith
more-grows (m ∷ ns) zero n (suc i) = omega arith
more-grows (m ∷ ns) (suc j) n zero = omega arith
more-grows (m ∷ ns) (suc j) n (suc i) = more-grows ns j n i

behind-grows : (l : ℕ) (before : List ℕ) (t : Table) (i : ℕ) → get_or before i 0 ≤ get_or (behind l before t) i 0
behind-grows l before t i =
    let P : List ℕ → Type 0 = λ (ns : List ℕ). get_or before i 0 ≤ get_or ns i 0 in
    choose-either (eqb l TABLES) P (more-grows before _ _ i) (choose-either (eqb l MAPS) P (more-grows before _ _ i) (choose-either (eqb l ITEMS) P (more-grows before _ _ i) (omega arith)))

pub behind_all-grows : (l : ℕ) (before : List ℕ) (ts : List Table) (i : ℕ) → get_or before i 0 ≤ get_or (behind_all l before ts) i 0
unfolding behind_all
behind_all-grows l before [] i = omega arith
behind_all-grows l before (t ∷ ts) i = omega (arith, behind-grows l before t i, behind_all-grows l (behind l before t) ts i)
