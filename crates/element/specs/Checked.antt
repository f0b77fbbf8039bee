-- What the code answers for an element, way by way.
use Rattle.std.specs.Prelude.{ℕ, zero, suc, ◌+◌, ◌≤◌, ◌<◌, min, ◌≡◌, List, length, Ok, Err}
use Rattle.std.proofs.Math.Path.{refl, ap, sym}
use Rattle.std.proofs.Common.{◌∙◌, arith, ne_eqb}
use Rattle.blob.specs.Le.{le}
use Rattle.blob.specs.declared.Refusal.{Refusal}
use Rattle.blob.specs.Reading.{Reading, got, Outcome, done, refused, run, ◌>>=◌, then, verdict}
use Rattle.blob.proofs.Laws.{result_found, result_refused, run-number, run_room, run_past, run-got, run_bind, run-after, run-stopped, fine-done}
use Rattle.event.specs.Events.{events-fine}
use Rattle.format.specs.Field.{unknown_element_header, unknown_element_end}
use Rattle.format.specs.Refuse.{offset_out, truncated}
use Rattle.format.specs.Region.{end_read}
use Rattle.format.proofs.Theorems.Ends.{is_place, no_end}
use Rattle.format.specs.Table.{EVNT, MAPS, TTBL, header_length, header_at, header_read, stride, table_end}
use Rattle.format.specs.Definition.{definitions_at}
use Rattle.format.specs.Template.{templates_at}
use Rattle.format.specs.Map.{maps_at}
use Rattle.format.specs.Provider.{Rows, definitions, maps, templates, Table, table, plain, unknown_at, events_at, table_at, element_of}
use Rattle.format.specs.Answer.{capped}
use Rattle.format.specs.Steps.Needs.{entry_count, item_count, inner, count_read, maps_read, templates_read, table_read, element_read}
use Rattle.format.specs.declared.Header.{Header}
use Rattle.element.specs.Tables.{as_events, as_maps, as_templates, as_definitions, header-words}

-- what the answer for a header tells of its reading
is_header : (o : Outcome Header) (h : Header) → Ok h ≡ header_read o → o ≡ done h
is_header o h e = let f = result_found (λ h. h) o h e in f.1 ∙ ap done (sym f.2)

no_header : (o : Outcome Header) (r : Refusal) → Err r ≡ header_read o → o ≡ refused r
no_header o r e = result_refused (λ h. h) o r e

-- an element of no known kind, whose signature lies in the blob
module _ (at : ℕ) (s : List ℕ) (i : at ≤ length s) where
  pub unknown-short : length s < at + 8 → run (unknown_at at) s ≡ refused ((truncated unknown_element_header at 8).told (length s))
  unfolding unknown_at
  unknown-short g = rw (run_room, run_past)

  module _ (h : at + 8 ≤ length s) (e : ℕ) (ends : e ≡ at + le 4 s (at + 4)) where
    pub unknown-out : length s < e → run (unknown_at at) s ≡ refused ((offset_out unknown_element_end (min e 4294967295)).told (length s))
    unfolding unknown_at
    unknown-out g = rw (run_room, run_room, run-number, run-number, ← ends, run_past)

    pub unknown-fine : e ≤ length s → verdict (run (unknown_at at) s) ≡ Ok tt
    unfolding unknown_at
    unknown-fine g = rw (run_room, run_room, run-number, run-number, ← ends, run_room, run-got)

-- an EVNT whose end is known
module _ (at : ℕ) (h : Header) (s : List ℕ) where
  pub events-refused : (r : Refusal) → Err r ≡ end_read (λ e. e) (run (table_end EVNT at h) s) → run (events_at at h) s ≡ refused r
  unfolding events_at
  events-refused r f = run-stopped _ _ s r (no_end _ _ r f)

  pub events-found : (e : ℕ) → Ok e ≡ end_read (λ e. e) (run (table_end EVNT at h) s) → table_read (run (events_at at h) s) ≡ Ok 0
  unfolding events_at run
  events-found e f =
      ap table_read (run-after _ _ s e (is_place _ e f) ∙ run-number _ _ _ s ∙ run-after _ _ s _ (fine-done _ (events-fine s h.count (at + 16))))

-- tables whose entries have so many of their own, and those whose have none
with_inner : {A : Type 0} (k at : ℕ) (h : Header) (s : List ℕ) (f : A → Rows) (count : A → ℕ) → ((a : A) → inner (f a) ≡ count a) → (r : Reading A)
    → count_read count (run r s) ≡ table_read (run (r >>= λ a. got (plain k at h (f a))) s)
unfolding then run
with_inner {A} k at h s f count n r = go (run r s) ∙ sym (ap table_read (run_bind _ _ s))
  where
    go : (o : Outcome A) → count_read count o ≡ table_read (then o (λ a. done (plain k at h (f a))))
    go (done a) = ap (λ m. Ok (capped m)) (sym (n a))
    go (refused q) = refl

-- a table, by its kind
module _ (k at : ℕ) (h : Header) (s : List ℕ) where
  pub checks_events : k ≡ EVNT → table_read (run (events_at at h) s) ≡ table_read (run (table_at k at h) s)
  checks_events e = ap (λ r. table_read (run r s)) (sym (as_events k at h e))

  pub checks_maps : k ≡ MAPS → maps_read (run (maps_at at h) s) ≡ table_read (run (table_at k at h) s)
  checks_maps e = with_inner k at h s maps entry_count (λ ms. refl) _ ∙ ap (λ r. table_read (run r s)) (sym (as_maps k at h e))

  pub checks_templates : k ≡ TTBL → templates_read (run (templates_at at h) s) ≡ table_read (run (table_at k at h) s)
  checks_templates e = with_inner k at h s templates item_count (λ ts. refl) _ ∙ ap (λ r. table_read (run r s)) (sym (as_templates k at h e))

  pub checks_definitions : (k ≡ EVNT → ⊥) → (k ≡ MAPS → ⊥) → (k ≡ TTBL → ⊥) → count_read (λ ds. 0) (run (definitions_at k at h) s) ≡ table_read (run (table_at k at h) s)
  checks_definitions e m t = with_inner k at h s definitions (λ ds. 0) (λ ds. refl) _ ∙ ap (λ r. table_read (run r s)) (sym (as_definitions k at h e m t))

-- an element of a known kind, by what was found of its header
module _ (k at : ℕ) (s : List ℕ) (known : 1 ≤ k) where
  pub checks_refused : (r : Refusal) → Err r ≡ header_read (run (header_at k at) s) → Err r ≡ element_read (run (element_of k at) s)
  unfolding element_of
  checks_refused r f = rw (ne_eqb k 0 (λ z. omega arith)) (sym (ap element_read (run-stopped _ _ s r (no_header _ r f))))

  module _ (h : Header) (f : Ok h ≡ header_read (run (header_at k at) s)) where
    pub checks_table : table_read (run (table_at k at h) s) ≡ element_read (run (element_of k at) s)
    unfolding element_of then run
    checks_table = rw (ne_eqb k 0 (λ z. omega arith)) (go (run (table_at k at h) s) ∙ sym (ap element_read (run-after _ _ s h (is_header _ h f) ∙ run_bind _ _ s)))
      where
        go : (o : Outcome Table) → table_read o ≡ element_read (then o (λ t. done (table t)))
        go (done t) = refl
        go (refused q) = refl

    pub header-fits : at + header_length k ≤ length s
    header-fits = (header-words s k at h (is_header _ h f)).0

-- a record of definitions has at least 12 bytes
pub record_least : (k : ℕ) → 1 ≤ k → k ≤ 8 → (k ≡ MAPS → ⊥) → (k ≡ TTBL → ⊥) → 12 ≤ stride k
record_least zero l g m t = absurd (omega arith)
record_least (suc zero) l g m t = omega arith
record_least (suc (suc zero)) l g m t = omega arith
record_least (suc (suc (suc zero))) l g m t = omega arith
record_least (suc (suc (suc (suc zero)))) l g m t = omega arith
record_least (suc (suc (suc (suc (suc zero))))) l g m t = absurd (m refl)
record_least (suc (suc (suc (suc (suc (suc zero)))))) l g m t = omega arith
record_least (suc (suc (suc (suc (suc (suc (suc zero))))))) l g m t = omega arith
record_least (suc (suc (suc (suc (suc (suc (suc (suc zero)))))))) l g m t = absurd (t refl)
record_least (suc (suc (suc (suc (suc (suc (suc (suc (suc k))))))))) l g m t = absurd (omega arith)
