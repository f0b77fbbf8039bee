-- The numbers of the kinds: each from 1 to 8, and of one kind only.
use Rattle.std.specs.Prelude.{ℕ, zero, suc, ◌+◌, ◌≤◌, ◌<◌, ◌≡◌, refl, List, [], ◌∷◌, get_or}
use Rattle.std.proofs.Common.{arith, ap, sym, ◌∙◌}
use Rattle.format.specs.Kinds.{number}
use Rattle.format.specs.declared.kind.Kind.{Kind}
use Rattle.format.specs.declared.kind.Kind.TheVariants.{Chan, Evnt, Keyw, Levl, Maps, Opco, Task, Ttbl}

pub one_of-eight : (k : Kind) → (1 ≤ number k) × (number k ≤ 8)
one_of-eight Chan = omega arith
one_of-eight Evnt = omega arith
one_of-eight Keyw = omega arith
one_of-eight Levl = omega arith
one_of-eight Maps = omega arith
one_of-eight Opco = omega arith
one_of-eight Task = omega arith
one_of-eight Ttbl = omega arith

-- all of them, in the order of their numbers
abbrev all : List Kind
all = Chan ∷ Evnt ∷ Keyw ∷ Levl ∷ Maps ∷ Opco ∷ Task ∷ Ttbl ∷ []

pub in_order : (i : ℕ) → i < 8 → (k : Kind) → number (get_or all i k) ≡ i + 1
in_order zero h k = refl
in_order (suc zero) h k = refl
in_order (suc (suc zero)) h k = refl
in_order (suc (suc (suc zero))) h k = refl
in_order (suc (suc (suc (suc zero)))) h k = refl
in_order (suc (suc (suc (suc (suc zero))))) h k = refl
in_order (suc (suc (suc (suc (suc (suc zero)))))) h k = refl
in_order (suc (suc (suc (suc (suc (suc (suc zero))))))) h k = refl
in_order (suc (suc (suc (suc (suc (suc (suc (suc i)))))))) h k = absurd (omega arith)

-- the kind with a number
abbrev kind_of : ℕ → Kind
kind_of n = get_or (Chan ∷ all) n Chan

of-number : (k : Kind) → kind_of (number k) ≡ k
of-number Chan = refl
of-number Evnt = refl
of-number Keyw = refl
of-number Levl = refl
of-number Maps = refl
of-number Opco = refl
of-number Task = refl
of-number Ttbl = refl

-- another kind has another number
pub other-number : (j k : Kind) → (j ≡ k → ⊥) → number j ≡ number k → ⊥
other-number j k n e = n (sym (of-number j) ∙ ap kind_of e ∙ of-number k)
