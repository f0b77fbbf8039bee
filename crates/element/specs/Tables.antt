-- What an accepted reading of a table, of an element and of a provider's elements tells: a table's kind, place, header and rows, and that
-- a kept table is one that was read.
use Prim.{Unit, tt}
use Prim.Native.Nat.{ℕ, zero, suc, ◌+◌, ◌-◌, ◌*◌, ◌≤◌}
use Rattle.std.proofs.Math.Path.{◌≡◌, refl, ap, sym, subst}
use Rattle.std.proofs.Common.{◌∙◌, arith}
use Rattle.std.specs.Prelude.{Bool, Ok}
use Rattle.std.proofs.Math.Bool.{true, false}
use mathlib.Core.List.{List, [], ◌∷◌}
use Rattle.std.proofs.Math.ListN.{length}
use Rattle.std.proofs.Math.Dec.{eqb}
use borrow.Author.Tests.{eqb-true, eqb-false, ne_eqb}
use Rattle.blob.specs.Le.{le}
use Rattle.blob.specs.Reading.{Reading, got, done, choose, run, ◌>>=◌, many, each, verdict, values}
use Rattle.blob.proofs.Laws.{then-done, run_bind, run-got, run-number, same, fine-done, many-count, each-done}
use Rattle.blob.proofs.Finds.{Finds, finds-got, finds-room, finds-choose, finds-demand, finds_bind, finds-next}
use Rattle.format.specs.Table.{EVNT, MAPS, TTBL, kinds, kind_of, kind_list, header_length, stride, header_at, table_end}
use Rattle.format.specs.Definition.{definitions_at, step}
use Rattle.format.specs.Event.{event_at}
use Rattle.format.specs.Template.{Template, templates_at}
use Rattle.format.specs.Map.{Mapped, maps_at}
use Rattle.format.specs.Provider.{definitions, events, maps, templates, Table, Element, table, unknown, plain, events_at, table_at, unknown_at, element_of, element_at, elements_from}
use Rattle.format.specs.Area.{DEFINITIONS}
use Rattle.format.specs.Lists.{last_of, or_else, list_of, row_count, maps_in, templates_in}
use Rattle.format.proofs.Theorems.Listed.{first}
use Rattle.format.proofs.Theorems.Rested.{kind-cases}
use Rattle.format.specs.declared.Header.{Header}
use Rattle.format.specs.declared.Definition.{Definition}
use Rattle.format.specs.declared.Event.{Event}
use Rattle.format.specs.declared.Descriptor.{Descriptor}

-- the table of a kind whose header was read
pub record Told (k at : ℕ) (h : Header) (t : Table) : Type 0 where
  pub kind : t.kind ≡ k
  pub offset : t.offset ≡ at
  pub size : t.size ≡ h.size
  pub count : row_count t.rows ≡ h.count
  pub list : 1 ≤ k → k ≤ 8 → list_of t.rows ≡ kind_list k
  pub no-maps : (k ≡ MAPS → ⊥) → maps_in t.rows ≡ []
  pub no-templates : (k ≡ TTBL → ⊥) → templates_in t.rows ≡ []

-- a kind whose tables have definitions
kind-definitions : (k : ℕ) → 1 ≤ k → k ≤ 8 → (k ≡ EVNT → ⊥) → (k ≡ MAPS → ⊥) → (k ≡ TTBL → ⊥) → kind_list k ≡ DEFINITIONS
kind-definitions zero a b e m t = absurd (omega arith)
kind-definitions (suc k) a b e m t =
    first (λ i. (suc i ≡ EVNT → ⊥) → (suc i ≡ MAPS → ⊥) → (suc i ≡ TTBL → ⊥) → kind_list (suc i) ≡ DEFINITIONS) 8 (
      (λ e m t. refl),
      ((λ e m t. absurd (e refl)), ((λ e m t. refl), ((λ e m t. refl), ((λ e m t. absurd (m refl)), ((λ e m t. refl), ((λ e m t. refl), ((λ e m t. absurd (t refl)), tt))))))),
    ) k (omega arith) e m t

-- which reading a kind's is
module _ (k at : ℕ) (h : Header) where
  pub as_events : k ≡ EVNT → table_at k at h ≡ events_at at h
  unfolding table_at
  as_events e = rw e

  pub as_maps : k ≡ MAPS → table_at k at h ≡ (maps_at at h >>= λ ms. got (plain k at h (maps ms)))
  unfolding table_at
  as_maps e = rw e

  pub as_templates : k ≡ TTBL → table_at k at h ≡ (templates_at at h >>= λ ts. got (plain k at h (templates ts)))
  unfolding table_at
  as_templates e = rw e

  pub as_definitions : (k ≡ EVNT → ⊥) → (k ≡ MAPS → ⊥) → (k ≡ TTBL → ⊥) → table_at k at h ≡ (definitions_at k at h >>= λ ds. got (plain k at h (definitions ds)))
  unfolding table_at
  as_definitions e m t = rw (ne_eqb k EVNT e, ne_eqb k MAPS m, ne_eqb k TTBL t)

module _ (s : List ℕ) where
  anything : {A : Type 0} {r : Reading A} → Finds r s (λ a. Unit {0})
  anything = record { found = λ a e. tt }

  -- so many as were asked for
  counted : {S A : Type 0} (p : S → Reading A) (to : A → S → S) (n : ℕ) (at : S) → Finds (many p to n at) s (λ vs. length vs ≡ n)
  counted p to n at = record { found = λ vs e. many-count p to n at s vs e }

  events-told : (at : ℕ) (h : Header) → Finds (events_at at h) s (λ t. Told EVNT at h t)
  unfolding events_at
  events-told at h =
      finds_bind _ anything (λ e _. finds-next 4 (at + 12) (λ x _. finds_bind _ (counted _ _ h.count _) (λ es n.
      finds-got (record { kind = refl; offset = refl; size = refl; count = n; list = λ _ _. refl; no-maps = λ _. refl; no-templates = λ _. refl }))))

  maps-told : (at : ℕ) (h : Header) → Finds (maps_at at h) s (λ ms. length ms ≡ h.count)
  unfolding maps_at
  maps-told at h =
      finds_bind _ anything (λ region _. finds-choose (eqb h.count 0) (λ z. finds-got (sym (eqb-true _ _ z))) (λ z.
      finds-room (λ _. finds_bind _ anything (λ m _. finds_bind _ (counted _ _ (h.count - 1) _) (λ ms n. finds-got (omega (arith, n, eqb-false h.count 0 z)))))))

  templates-told : (at : ℕ) (h : Header) → Finds (templates_at at h) s (λ ts. length ts ≡ h.count)
  unfolding templates_at
  templates-told at h = finds_bind _ anything (λ region _. counted _ _ h.count _)

  definitions-told : (k at : ℕ) (h : Header) → Finds (definitions_at k at h) s (λ ds. length ds ≡ h.count)
  unfolding definitions_at
  definitions-told k at h = finds_bind _ anything (λ e _. counted _ _ h.count _)

  table-told : (k at : ℕ) (h : Header) → Finds (table_at k at h) s (λ t. Told k at h t)
  unfolding table_at
  table-told k at h =
      finds-choose (eqb k EVNT) (λ e. rw (eqb-true k EVNT e) (events-told at h)) (λ e.
      finds-choose (eqb k MAPS) (λ m. finds_bind _ (maps-told at h) (λ ms n.
      finds-got (record { kind = refl; offset = refl; size = refl; count = n; list = λ _ _. rw (eqb-true k MAPS m); no-maps = λ f. absurd (f (eqb-true k MAPS m)); no-templates = λ f. refl }))) (λ m.
      finds-choose (eqb k TTBL) (λ t. finds_bind _ (templates-told at h) (λ ts n.
      finds-got (record { kind = refl; offset = refl; size = refl; count = n; list = λ _ _. rw (eqb-true k TTBL t); no-maps = λ f. refl; no-templates = λ f. absurd (f (eqb-true k TTBL t)) }))) (λ t.
      finds_bind _ (definitions-told k at h) (λ ds n.
      finds-got (record { kind = refl; offset = refl; size = refl; count = n; list = λ x y. sym (kind-definitions k x y (eqb-false k EVNT e) (eqb-false k MAPS m) (eqb-false k TTBL t)); no-maps = λ f. refl; no-templates = λ f. refl })))))

  pub told : (k at : ℕ) (h : Header) (t : Table) → run (table_at k at h) s ≡ done t → Told k at h t
  told k at h t e = (table-told k at h).found t e

  header-told : (k at : ℕ) → Finds (header_at k at) s (λ h. (at + header_length k ≤ length s) × (h ≡ record { size = le 4 s (at + 4); count = le 4 s (at + 8) }))
  unfolding header_at
  header-told k at =
      finds-room (λ a. finds-room (λ b. finds-next 4 at (λ f _. finds-demand _ _ (λ d. finds-next 4 (at + 4) (λ z ez. finds-next 4 (at + 8) (λ n en.
      finds-got (b, rw (ez, en))))))))

  pub header-words : (k at : ℕ) (h : Header) → run (header_at k at) s ≡ done h
      → (at + header_length k ≤ length s) × (h ≡ record { size = le 4 s (at + 4); count = le 4 s (at + 8) })
  header-words k at h e = (header-told k at).found h e

  -- what a reading's value was made of
  made : {A B : Type 0} (r : Reading A) (f : A → B) (b : B) → run (r >>= λ a. got (f a)) s ≡ done b → (a : A) × (run r s ≡ done a) × (b ≡ f a)
  made r f b e =
      let o = then-done _ _ b (sym (run_bind _ _ s) ∙ e) in
      (o.0, o.1, sym (same _ _ (sym (run-got _ s) ∙ o.2)))

  -- A table's rows, by its kind.
  module _ (k at : ℕ) (h : Header) (t : Table) (e : run (table_at k at h) s ≡ done t) where
    pub are_maps : k ≡ MAPS → (ms : List Mapped) × (run (maps_at at h) s ≡ done ms) × (t ≡ plain k at h (maps ms))
    are_maps m = made _ _ t (ap (λ r. run r s) (sym (as_maps k at h m)) ∙ e)

    pub are_templates : k ≡ TTBL → (ts : List Template) × (run (templates_at at h) s ≡ done ts) × (t ≡ plain k at h (templates ts))
    are_templates m = made _ _ t (ap (λ r. run r s) (sym (as_templates k at h m)) ∙ e)

    pub are_definitions : (k ≡ EVNT → ⊥) → (k ≡ MAPS → ⊥) → (k ≡ TTBL → ⊥)
        → (ds : List Definition) × (run (definitions_at k at h) s ≡ done ds) × (t ≡ plain k at h (definitions ds))
    are_definitions f g j = made _ _ t (ap (λ r. run r s) (sym (as_definitions k at h f g j)) ∙ e)

    -- where the records of an EVNT end
    abbrev pub behind : ℕ
    behind = at + header_length EVNT + stride EVNT * h.count

    pub are_events : k ≡ EVNT
        → (end : ℕ)
        × (run (table_end EVNT at h) s ≡ done end)
        × (es : List Event)
        × (run (many event_at (step (stride EVNT)) h.count (at + header_length EVNT)) s ≡ done es)
        × (t ≡ record { kind = EVNT; offset = at; size = h.size; extra = le 4 s (at + 12); rows = events es; start = behind; length = end - behind })
    unfolding events_at
    are_events m =
        let o = then-done _ _ t (sym (run_bind _ _ s) ∙ ap (λ r. run r s) (sym (as_events k at h m)) ∙ e) in
        let q = made _ _ t (sym (run-number _ _ _ s) ∙ o.2) in
        (o.0, o.1, q.0, q.1, q.2)

-- A table of a kind as it was read: what a kept table is.
pub record Kept (k : ℕ) (s : List ℕ) (t : Table) : Type 0 where
  pub known : (1 ≤ k) × (k ≤ 8)
  pub kind : t.kind ≡ k
  pub fits : t.offset + header_length k ≤ length s
  pub header : Header
  pub words : header ≡ record { size = le 4 s (t.offset + 4); count = le 4 s (t.offset + 8) }
  pub headed : run (header_at k t.offset) s ≡ done header
  pub found : run (table_at k t.offset header) s ≡ done t
  pub told : Told k t.offset header t

-- the kind that a signature names is one of the eight, or none
pub kind-most : (sig : ℕ) → kind_of sig ≤ 8
kind-most sig = kind-cases (λ k. k ≤ 8) kinds sig (omega arith) (omega arith)

module _ (s : List ℕ) where
  -- an element of no known kind, and one of a kind
  pub is_unknown : (at : ℕ) (e : Element) → run (element_of 0 at) s ≡ done e
      → (e ≡ unknown (record { signature = le 4 s at; offset = at; size = le 4 s (at + 4) })) × (at + 8 ≤ length s)
  unfolding element_of unknown_at
  is_unknown at e h = go.found e h
    where
      go : Finds (unknown_at at) s (λ e. (e ≡ unknown (record { signature = le 4 s at; offset = at; size = le 4 s (at + 4) })) × (at + 8 ≤ length s))
      go =
          finds-room (λ a. finds-room (λ b. finds-next 4 at (λ sig es. finds-next 4 (at + 4) (λ z ez. finds-room (λ c. finds-got (rw (es, ez), b))))))

  as_kept : (k : ℕ) (h : Header) (t : Table) → 1 ≤ k → k ≤ 8 → run (header_at k t.offset) s ≡ done h → run (table_at k t.offset h) s ≡ done t → Kept k s t
  as_kept k h t l g e f =
      let x = told s k t.offset h t f in
      let w = header-words s k t.offset h e in
      record { known = (l, g); kind = x.kind; fits = w.0; header = h; words = w.1; headed = e; found = f; told = x }

  pub is_table : (k at : ℕ) (e : Element) → 1 ≤ k → k ≤ 8 → run (element_of k at) s ≡ done e → (t : Table) × (e ≡ table t) × (t.offset ≡ at) × Kept k s t
  unfolding element_of
  is_table k at e l g h =
      let o = then-done _ _ e (sym (run_bind _ _ s) ∙ (rw (ne_eqb k 0 (λ z. omega arith)) at h)) in
      let q = made s _ _ e o.2 in
      let p = (told s k at o.0 q.0 q.1).offset in (
        q.0,
        q.2,
        p,
        as_kept k o.0 q.0 l g (subst (λ n. run (header_at k n) s ≡ done o.0) (sym p) o.1) (subst (λ n. run (table_at k n o.0) s ≡ done q.0) (sym p) q.1),
      )

  -- an element as it was read
  abbrev Stands : Element → Type 0
  Stands (table t) = Kept t.kind s t
  Stands (unknown u) = Unit {0}

  abbrev All : List Element → Type 0
  All [] = Unit {0}
  All (e ∷ es) = Stands e × All es

  stands : (d : Descriptor) (e : Element) → run (element_at d) s ≡ done e → Stands e
  unfolding element_at
  stands d e h = go (kind_of d.signature) (kind-most d.signature) h
    where
      go : (k : ℕ) → k ≤ 8 → run (element_of k d.offset) s ≡ done e → Stands e
      go zero l h = rw (is_unknown d.offset e h).0 tt
      go (suc k) l h =
          let t = is_table (suc k) d.offset e (omega arith) l h in
          rw (t.1, t.3.kind) t.3

  all-stand : (ds : List Descriptor) (es : List Element) → run (each element_at ds) s ≡ done es → All es
  unfolding each run
  all-stand [] es h = rw (sym (same _ _ h)) tt
  all-stand (d ∷ ds) es h =
      let o = each-done element_at s d ds es h in
      rw o.4 (stands d o.0 o.2, all-stand ds o.1 o.3)

  -- the last one of a kind is one of them, and one only
  last-stands : (k : ℕ) (es : List Element) (t : Table) (ts : List Table) → All es → last_of k es ≡ t ∷ ts → (ts ≡ []) × Kept k s t
  unfolding last_of
  last-stands k [] t ts a h = absurd (let z : ◌≡◌ {A = ℕ} 0 1 = cc in omega arith)
  last-stands k (unknown u ∷ es) t ts a h = last-stands k es t ts a.1 h
  last-stands k (table x ∷ es) t ts a h = go (last-stands k es t ts a.1) (last_of k es) (eqb x.kind k) refl refl h
    where
      go : (last_of k es ≡ t ∷ ts → (ts ≡ []) × Kept k s t)
          → (l : List Table) (b : Bool) → last_of k es ≡ l → eqb x.kind k ≡ b → or_else l (choose b (x ∷ []) []) ≡ t ∷ ts → (ts ≡ []) × Kept k s t
      go ih (y ∷ ys) b e f g = ih (e ∙ g)
      go ih [] true e f g =
          let p : x ≡ t = cc in
          (cc, subst (λ (y : Table). Kept k s y) p (subst (λ n. Kept n s x) (eqb-true x.kind k f) a.0))
      go ih [] false e f g = absurd (let z : ◌≡◌ {A = ℕ} 0 1 = cc in omega arith)

  -- a table that is kept of accepted elements
  pub kept-one : (n at k : ℕ) (t : Table) (ts : List Table) → verdict (run (elements_from n at) s) ≡ Ok tt
      → last_of k (values (run (elements_from n at) s)) ≡ t ∷ ts → (ts ≡ []) × Kept k s t
  kept-one n at k t ts v h =
      let o = then-done _ _ _ (sym (run_bind _ _ s) ∙ fine-done _ v) in
      last-stands k _ t ts (all-stand o.0 _ o.2) h
