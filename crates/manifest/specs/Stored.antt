-- What is answered and held where the providers are fine: by the room that the lists have.
use Rattle.std.specs.Prelude.{ℕ, zero, suc, ◌+◌, ◌*◌, ◌≤◌, ◌≡◌, true, List, [], ◌∷◌, map, length, Ok, Err}
use Rattle.std.proofs.Common.{ap, sym, ◌∙◌, arith}
use Rattle.blob.specs.declared.Refusal.{Refusal}
use Rattle.blob.specs.Reading.{done, refused, run, verdict}
use Rattle.blob.proofs.Laws.{fine-done}
use Rattle.format.specs.Provider.{Provider}
use Rattle.format.specs.Lists.{lists}
use Rattle.format.specs.Area.{rows, AREAS, none}
use Rattle.format.specs.Answer.{moderate, with_room, counted, capped}
use Rattle.format.specs.Steps.Needs.{needs_all}
use Rattle.format.proofs.Theorems.Needed.{needed}
use Rattle.format.specs.Steps.Parts.{Few}
use Rattle.format.proofs.Theorems.Fits.{few-uncapped}
use Rattle.format.specs.declared.CrimHeader.{CrimHeader}
use Rattle.counts.specs.Short.{short}
use Rattle.areas.specs.Areas.{providers, providers_in, roomy, few}
use Rattle.manifest.specs.Read.{block_reading, array_whole, reading-done, by_verdict, room-decides}

few-capped : (ns : List ℕ) → Few ns → Few (map capped ns)
few-capped [] f i = omega arith
few-capped (n ∷ ns) f zero = omega (arith, f 0)
few-capped (n ∷ ns) f (suc i) = few-capped ns (λ j. f (suc j)) i

module _ (h : CrimHeader) (s : List ℕ) (c needs : List ℕ) (c-rows : length c ≡ AREAS) (g : 16 + 20 * h.count ≤ length s) (v : verdict (run (providers h.count) s) ≡ Ok tt)
    (e : needs ≡ needs_all none (providers_in h.count s)) (m : moderate c ≡ true) where
  abbrev ps : List Provider
  ps = providers_in h.count s

  -- the needs, as far as anyone asks, decide
  decided : {A : Type 0} (a : A) → with_room rows c (lists ps) a ≡ by_verdict a (short rows c needs)
  decided a =
      room-decides rows c (lists ps) a m
      ∙ ap (λ (ks : List ℕ). by_verdict a (short rows c ks)) (sym (e ∙ needed ps))

  read : block_reading h s c ≡ by_verdict (record { header = h; providers = ps }) (short rows c needs)
  read = reading-done h s c ps (array_whole h s g ∙ fine-done _ v) ∙ decided (record { header = h; providers = ps })

  pub store_refused : (r : Refusal) → Err r ≡ short rows c needs → block_reading h s c ≡ refused r
  store_refused r q = read ∙ ap (by_verdict (record { header = h; providers = ps })) (sym q)

  module _ (q : Ok tt ≡ short rows c needs) where
    pub store_roomy : roomy c ps
    store_roomy = decided 0 ∙ ap (by_verdict 0) (sym q)

    pub store_done : block_reading h s c ≡ done (record { header = h; providers = ps })
    store_done = read ∙ ap (by_verdict (record { header = h; providers = ps })) (sym q)

    pub store_counted : needs ≡ counted (lists ps)
    store_counted = e ∙ needed ps ∙ few-uncapped (counted (lists ps)) (few-capped (counted (lists ps)) (few c c-rows ps m store_roomy))
