-- A known signature for each of eight cells, so that one comparison tells a signature that names no kind.
use Rattle.std.specs.Prelude.{ℕ, ◌*◌, ◌/◌, ◌%◌, ◌≡◌, refl, false, eqb}
use Rattle.std.proofs.Common.{ap, sym, ◌∙◌, ne_eqb}
use Rattle.blob.specs.Reading.{choose}
use Rattle.format.specs.Table.{CHAN, EVNT, KEYW, LEVL, MAPS, OPCO, TASK, TTBL, signature, kind_in, kind_of}

-- the kind in a cell
unfoldable pub in_cell : ℕ → ℕ
in_cell c =
    choose (eqb c 0) MAPS (choose (eqb c 1) TASK (choose (eqb c 2) OPCO (choose (eqb c 3) EVNT (
    choose (eqb c 4) KEYW (choose (eqb c 5) CHAN (choose (eqb c 6) TTBL LEVL))))))

-- the known signature in a signature's cell
abbrev pub named : ℕ → ℕ
named s = signature (in_cell (s * 29 / 4194304 % 8))

-- each known signature is the one in its own cell
pub names-none : (s : ℕ) → (s ≡ named s → ⊥) → kind_of s ≡ 0
unfolding kind_in in_cell
names-none s other =
    rw (not CHAN refl, not EVNT refl, not KEYW refl, not LEVL refl, not MAPS refl, not OPCO refl, not TASK refl, not TTBL refl)
  where
    not : (k : ℕ) → signature k ≡ named (signature k) → eqb s (signature k) ≡ false
    not k e = ne_eqb _ _ (λ q. other (q ∙ e ∙ ap named (sym q)))
