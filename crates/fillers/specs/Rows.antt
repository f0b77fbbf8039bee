-- What a table of a kind has: which lists have entries of it, and what each of them is.
use Rattle.std.specs.Prelude.{ℕ, ◌+◌, ◌*◌, ◌-◌, ◌≤◌, ◌≡◌, refl, Bool, true, false, List, [], ◌∷◌, length, eqb}
use Rattle.std.proofs.Math.Path.{ap}
use Rattle.std.proofs.Common.{sym, ◌∙◌, arith, eqb-true}
use Rattle.std.proofs.lemmas.Bool.{eqb-false}
use Rattle.blob.specs.Le.{le}
use Rattle.blob.specs.declared.Refusal.{Refusal}
use Rattle.blob.specs.Reading.{Outcome, done, refused, choose, run, many, answer}
use Rattle.blob.proofs.Laws.{never, same}
use Rattle.format.specs.Area as area
use Rattle.format.specs.Area.{TABLES, DEFINITIONS, EVENTS, ENTRIES, of, more}
use Rattle.format.specs.Table.{EVNT, MAPS, TTBL, kind_list, header_length, table_end}
use Rattle.format.specs.Definition.{step, definitions_at}
use Rattle.format.specs.Event.{event_at}
use Rattle.format.specs.Template.{Template, templates_at}
use Rattle.format.specs.Map.{Mapped, maps_at}
use Rattle.format.specs.Provider.{Table, definitions, events, maps, templates, plain, table_at}
use Rattle.format.specs.Lists.{definitions_in, events_in, maps_in, templates_in}
use Rattle.format.specs.Steps.Parts.{table_part, behind}
use Rattle.format.specs.declared.Header.{Header}
use Rattle.format.specs.declared.Definition.{Definition}
use Rattle.format.specs.declared.Event.{Event}
use Rattle.table.specs.Headers.{end_fits}
use Rattle.element.specs.Tables.{are_events, are_maps, are_templates, are_definitions, told}
use Rattle.fillers.specs.declared.Trailing.{Trailing}

abbrev pub holds_definitions : ℕ → Bool
holds_definitions k = choose (eqb k EVNT) false (choose (eqb k MAPS) false (choose (eqb k TTBL) false true))

abbrev pub has_entries : ℕ → ℕ → Bool
has_entries l k =
    choose (eqb l TABLES) true (
    choose (eqb l DEFINITIONS) (holds_definitions k) (
    choose (eqb l EVENTS) (eqb k EVNT) (
    choose (eqb l area.MAPS) (eqb k MAPS) (
    choose (eqb l ENTRIES) (eqb k MAPS) (eqb k TTBL)))))

-- what is known of a table where it was accepted
abbrev pub trailing_of : Outcome Table → Trailing
trailing_of o = answer (λ t. record { extra = t.extra; start = t.start; length = t.length }) (λ r. record { extra = 0; start = 0; length = 0 }) o

-- the table that a reading found, if it found one
abbrev pub only : Outcome Table → List Table
only (done t) = t ∷ []
only (refused r) = []

-- the header of a kind that is known
pub header-as : (j k at n : ℕ) → k ≡ j → at + header_length k ≤ n → at + header_length j ≤ n
header-as j k at n e g = rw e at g

-- A table of a kind as its reading made it.
pub data Shape (k at : ℕ) (h : Header) (s : List ℕ) (t : Table) : Type 0 where
  of-events : k ≡ EVNT → (end : ℕ) → run (table_end EVNT at h) s ≡ done end → (es : List Event)
      → run (many event_at (step 48) h.count (at + 16)) s ≡ done es
      → t ≡ record { kind = EVNT; offset = at; size = h.size; extra = le 4 s (at + 12); rows = events es; start = at + 16 + 48 * h.count; length = end - (at + 16 + 48 * h.count) }
      → Shape k at h s t
  of-maps : k ≡ MAPS → (ms : List Mapped) → run (maps_at at h) s ≡ done ms → t ≡ plain k at h (maps ms) → Shape k at h s t
  of-templates : k ≡ TTBL → (ts : List Template) → run (templates_at at h) s ≡ done ts → t ≡ plain k at h (templates ts) → Shape k at h s t
  of-definitions : (k ≡ EVNT → ⊥) → (k ≡ MAPS → ⊥) → (k ≡ TTBL → ⊥) → (ds : List Definition) → run (definitions_at k at h) s ≡ done ds
      → t ≡ plain k at h (definitions ds) → Shape k at h s t

module _ (k at : ℕ) (h : Header) (s : List ℕ) (t : Table) where
  pub shape : run (table_at k at h) s ≡ done t → Shape k at h s t
  shape e = go (eqb k EVNT) (eqb k MAPS) (eqb k TTBL) refl refl refl
    where
      go : (a b c : Bool) → eqb k EVNT ≡ a → eqb k MAPS ≡ b → eqb k TTBL ≡ c → Shape k at h s t
      go true b c x y z = let v = eqb-true k EVNT x in let m = are_events s k at h t e v in of-events v m.0 m.1 m.2 m.3 m.4
      go false true c x y z = let v = eqb-true k MAPS y in let m = are_maps s k at h t e v in of-maps v m.0 m.1 m.2
      go false false true x y z = let v = eqb-true k TTBL z in let m = are_templates s k at h t e v in of-templates v m.0 m.1 m.2
      go false false false x y z =
          let a = eqb-false k EVNT x in
          let b = eqb-false k MAPS y in
          let c = eqb-false k TTBL z in
          let m = are_definitions s k at h t e a b c in
          of-definitions a b c m.0 m.1 m.2

  -- what is beside the events of an EVNT, and beside other rows
  pub no-trailing : (k ≡ EVNT → ⊥) → Shape k at h s t → trailing_of (done t) ≡ record { extra = 0; start = 0; length = 0 }
  no-trailing n (of-events v _ _ es _ m) = absurd (n v)
  no-trailing n (of-maps v ms _ m) = rw m refl
  no-trailing n (of-templates v ts _ m) = rw m refl
  no-trailing n (of-definitions a b c ds _ m) = rw m refl

  pub trailing_is : (end : ℕ) → k ≡ EVNT → run (table_end EVNT at h) s ≡ done end → Shape k at h s t
      → trailing_of (done t) ≡ record { extra = le 4 s (at + 12); start = at + 16 + 48 * h.count; length = end - (at + 16 + 48 * h.count) }
  trailing_is end v e (of-events _ end' e' es _ m) = rw (m, same end' end (sym e' ∙ e)) refl
  trailing_is end v e (of-maps g ms _ m) = absurd (omega (arith, v, g))
  trailing_is end v e (of-templates g ts _ m) = absurd (omega (arith, v, g))
  trailing_is end v e (of-definitions a b c ds _ m) = absurd (a v)

  pub never_ends : (r : Refusal) → k ≡ EVNT → run (table_end EVNT at h) s ≡ refused r → Shape k at h s t → ⊥
  never_ends r v e (of-events _ end e' es _ m) = never r end (sym e ∙ e')
  never_ends r v e (of-maps g ms _ m) = omega (arith, v, g)
  never_ends r v e (of-templates g ts _ m) = omega (arith, v, g)
  never_ends r v e (of-definitions a b c ds _ m) = a v

  -- what a list's filler reads is what the table has, as much as its header says
  module _ (e : run (table_at k at h) s ≡ done t) where
    pub definitions-in : holds_definitions k ≡ true → (run (definitions_at k at h) s ≡ done (definitions_in t.rows)) × (length (definitions_in t.rows) ≡ h.count)
    definitions-in q = go (shape e)
      where
        go : Shape k at h s t → (run (definitions_at k at h) s ≡ done (definitions_in t.rows)) × (length (definitions_in t.rows) ≡ h.count)
        go (of-events v _ _ es _ m) = absurd (let z : ◌≡◌ {A = ℕ} 0 1 = cc in omega arith)
        go (of-maps v ms _ m) = absurd (let z : ◌≡◌ {A = ℕ} 0 1 = cc in omega arith)
        go (of-templates v ts _ m) = absurd (let z : ◌≡◌ {A = ℕ} 0 1 = cc in omega arith)
        go (of-definitions a b c ds r m) = rw m (r, rw m at (told s k at h t e).count)

    pub events-in : k ≡ EVNT
        → (run (many event_at (step 48) h.count (at + 16)) s ≡ done (events_in t.rows))
        × (length (events_in t.rows) ≡ h.count)
        × (at + 16 + 48 * h.count ≤ length s)
    events-in q = let x = are_events s k at h t e q in rw x.4 (x.3, rw x.4 at (told s k at h t e).count, end_fits EVNT at h s x.0 x.1)

    pub maps-in : k ≡ MAPS → (run (maps_at at h) s ≡ done (maps_in t.rows)) × (length (maps_in t.rows) ≡ h.count)
    maps-in q = let x = are_maps s k at h t e q in rw x.2 (x.1, rw x.2 at (told s k at h t e).count)

    pub templates-in : k ≡ TTBL → (run (templates_at at h) s ≡ done (templates_in t.rows)) × (length (templates_in t.rows) ≡ h.count)
    templates-in q = let x = are_templates s k at h t e q in rw x.2 (x.1, rw x.2 at (told s k at h t e).count)

    -- list 4: the table itself
    module _ (one : 1 ≤ k) (most : k ≤ 8) where
      pub table-words : (x : Trailing) (n first : ℕ) (before : List ℕ) → x ≡ trailing_of (run (table_at k at h) s) → first ≡ of (kind_list k) before
          → ◌≡◌ {A = List ℕ} (n ∷ k ∷ at ∷ h.size ∷ x.extra ∷ first ∷ h.count ∷ x.start ∷ x.length ∷ []) (table_part TABLES n before t)
      unfolding table_part
      table-words x n first before f g =
          let y : x ≡ trailing_of (done t) = f ∙ ap trailing_of e in
          let z = told s k at h t e in
          rw (y, g) (rw (z.kind, z.offset, z.size, z.count, z.list one most) refl)

      pub table-behind : (before : List ℕ) → behind TABLES before t ≡ more (kind_list k) h.count before
      table-behind before = let x = told s k at h t e in rw (x.list one most, x.count) refl
