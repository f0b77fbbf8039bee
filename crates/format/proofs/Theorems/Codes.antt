-- No refusal has code 0: an answer whose code is 0 is an accepted block's. Codes 1 to 6 are those of readings (Coded); 7 to 9 are looked at
-- here.
use Rattle.std.specs.Prelude.{ℕ, ◌≤◌, ◌≡◌, refl, Bool, true, false, List, [], ◌∷◌, length, leb}
use Rattle.std.proofs.Common.{sym, arith}
use Rattle.blob.specs.declared.Refusal.{Refusal}
use Rattle.blob.specs.Reading.{Outcome, done, refused, choose, then}
use Rattle.blob.proofs.Laws.{never}
use Rattle.blob.proofs.Coded.{run-coded}
use Rattle.format.specs.Crim.{header, providers_of, crim}
use Rattle.format.specs.Area.{Row, rows}
use Rattle.format.specs.Lists.{Entry}
use Rattle.format.specs.Answer.{lent_enough, with_room, reading}
use Rattle.format.proofs.Theorems.Coded.{a_code, header-coded, providers_of-coded}

-- what an outcome is refused for has a code
abbrev pub Told : {A : Type 0} → Outcome A → Type 0
Told o = (q : Refusal) → o ≡ refused q → 1 ≤ q.code

told-done : {A : Type 0} (a : A) → Told (done a)
told-done a q e = absurd (never q a (sym e))

told-refused : {A : Type 0} (r : Refusal) → 1 ≤ r.code → Told {A = A} (refused r)
told-refused r h q e = let c : r.code ≡ q.code = cc in omega arith

told-choose : {A : Type 0} (t : Bool) {o p : Outcome A} → Told o → Told p → Told (choose t o p)
told-choose true h g = h
told-choose false h g = g

told-then : {A B : Type 0} (o : Outcome A) (f : A → Outcome B) → Told o → ((a : A) → Told (f a)) → Told (then o f)
unfolding then
told-then (done a) f h g = g a
told-then (refused r) f h g = told-refused r (h r refl)

told-room : {A : Type 0} (rs : List Row) (cs : List ℕ) (ls : List (List Entry)) (a : A) → Told (with_room rs cs ls a)
unfolding with_room
told-room [] cs ls a = told-done a
told-room (r ∷ rs) [] ls a = told-done a
told-room (r ∷ rs) (c ∷ cs) [] a = told-done a
told-room (r ∷ rs) (c ∷ cs) (l ∷ ls) a = told-choose (leb (length l) c) (told-room rs cs ls a) (told-refused _ a_code)

pub refused-code : (bytes words : List ℕ) (capacities : List ℕ) → Told (reading bytes words capacities)
unfolding reading crim
refused-code bytes words capacities =
    told-choose (leb (length bytes) 16777216) (told-choose (lent_enough capacities words)
    (told-then _ _ (told-then _ _ (run-coded header header-coded bytes) (λ h. told-then _ _ (run-coded (providers_of h) (providers_of-coded h) _) (λ ps. told-done _))) (λ c. told-room rows _ _ c))
    (told-refused _ a_code)) (told-refused _ a_code)
