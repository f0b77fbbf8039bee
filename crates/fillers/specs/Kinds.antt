-- What a list has of the table of a kind that is kept: its rows, or nothing.
use Prim.{tt}
use Rattle.std.specs.Prelude.{ℕ, ◌+◌, ◌-◌, ◌≤◌, ◌<◌, refl, Bool, true, List, [], ◌∷◌, ◌++◌, ◌⊎◌, length, get_or, eqb, Ok}
use Rattle.std.proofs.Math.Path.{◌≡◌}
use Rattle.std.proofs.Common.{ap, ap₂, sym, ◌∙◌, subst, inl, inr, ⊎_elim, arith, ne_eqb, eqb-true}
use Rattle.std.proofs.Math.Bool.{false}
use borrow.Rule.Slice.PartMut.{mid_of, put_mid}
use Rattle.std.proofs.lemmas.Bool.{eqb-false}
use Rattle.blob.specs.Le.{le}
use Rattle.blob.specs.Reading.{done, choose, run, verdict, values}
use Rattle.blob.proofs.Laws.{fine-value}
use Rattle.blob.specs.Places.{Each}
use Rattle.blob.specs.Laid.{flat, laid}
use Rattle.format.specs.Area as area
use Rattle.format.specs.Area.{TABLES, DEFINITIONS, EVENTS, ENTRIES, TEMPLATES, ITEMS, place}
use Rattle.format.specs.Table.{EVNT, MAPS, TTBL, header_length}
use Rattle.format.specs.Kinds.{number}
use Rattle.format.specs.Provider.{Table, Element, table_at, elements_from}
use Rattle.format.specs.Lists.{last_of, definitions_in, events_in, maps_in, templates_in, map_list, item_list}
use Rattle.format.specs.Steps.Needs.{total, place_of}
use Rattle.format.specs.Steps.Parts.{Counted, Room, TablesRoom, TablesStored, behind, behind_all, table_part, table_parts}
use Rattle.format.proofs.Theorems.Kinds.{one_of-eight}
use Rattle.format.proofs.Theorems.Grows.{set_same, behind_all-append}
use Rattle.format.proofs.Theorems.Stored.{Left, left-room, left-more, table_parts_append, few-before}
use Rattle.format.specs.declared.Header.{Header}
use Rattle.format.specs.declared.kind.Kind.{Kind}
use Rattle.element.specs.Places as places
use Rattle.element.specs.Places.{placed, kind-place}
use Rattle.element.specs.Kinds.{kept_here, kept-nowhere, kept_from, kept_more}
use Rattle.fillers.specs.Rows.{only, holds_definitions, has_entries, Shape, of-events, of-maps, of-templates, of-definitions, shape}

module _ {k at : ℕ} {h : Header} {s : List ℕ} {t : Table} where
  no-definitions : holds_definitions k ≡ false → Shape k at h s t → definitions_in t.rows ≡ []
  no-definitions q (of-events v _ _ es _ m) = rw m
  no-definitions q (of-maps v ms _ m) = rw m
  no-definitions q (of-templates v ts _ m) = rw m
  no-definitions q (of-definitions a b c ds _ m) =
      let e = ne_eqb k EVNT a in
      let f = ne_eqb k MAPS b in
      let g = ne_eqb k TTBL c in
      absurd (let z : ◌≡◌ {A = ℕ} 0 1 = cc in omega arith)

  no-events : eqb k EVNT ≡ false → Shape k at h s t → events_in t.rows ≡ []
  no-events q (of-events v _ _ es _ m) = absurd (let z : ◌≡◌ {A = ℕ} 0 1 = cc in omega arith)
  no-events q (of-maps v ms _ m) = rw m
  no-events q (of-templates v ts _ m) = rw m
  no-events q (of-definitions a b c ds _ m) = rw m

  no-maps : eqb k MAPS ≡ false → Shape k at h s t → maps_in t.rows ≡ []
  no-maps q (of-events v _ _ es _ m) = rw m
  no-maps q (of-maps v ms _ m) = absurd (let z : ◌≡◌ {A = ℕ} 0 1 = cc in omega arith)
  no-maps q (of-templates v ts _ m) = rw m
  no-maps q (of-definitions a b c ds _ m) = rw m

  no-templates : eqb k TTBL ≡ false → Shape k at h s t → templates_in t.rows ≡ []
  no-templates q (of-events v _ _ es _ m) = rw m
  no-templates q (of-maps v ms _ m) = rw m
  no-templates q (of-templates v ts _ m) = absurd (let z : ◌≡◌ {A = ℕ} 0 1 = cc in omega arith)
  no-templates q (of-definitions a b c ds _ m) = rw m

-- what holds of each of some lists, and of a list that is none of them
by_list : (P : ℕ → Type 0) (l : ℕ) (ls : List ℕ) → Each P ls → (Each (λ m. eqb l m ≡ false) ls → P l) → P l
by_list P l [] h rest = rest tt
by_list P l (m ∷ ls) h rest = go (eqb l m) refl (by_list P l ls h.1)
  where
    go : (b : Bool) → eqb l m ≡ b → ((Each (λ m. eqb l m ≡ false) ls → P l) → P l) → P l
    go true e others = rw (eqb-true l m e) h.0
    go false e others = others (λ q. rest (e, q))

module _ (k at : ℕ) (h : Header) (s : List ℕ) (t : Table) (n : ℕ) (before : List ℕ) (e : run (table_at k at h) s ≡ done t) where
  -- a table whose kind has no entries in a list
  not_here : (l : ℕ) → has_entries l k ≡ false → (table_part l n before t ≡ []) × (behind l before t ≡ before)
  unfolding table_part flat map_list item_list total
  not_here l =
      let x = shape k at h s t e in
      by_list (λ l. has_entries l k ≡ false → (table_part l n before t ≡ []) × (behind l before t ≡ before)) l
      (TABLES ∷ DEFINITIONS ∷ EVENTS ∷ area.MAPS ∷ ENTRIES ∷ ITEMS ∷ []) (
        (λ q. absurd (let z : ◌≡◌ {A = ℕ} 0 1 = cc in omega arith)),
        (
          (λ q. rw (no-definitions q x) (refl, refl)),
          (
            (λ q. rw (no-events q x) (refl, refl)),
            (
              (λ q. rw (no-maps q x) (refl, set_same before (place ENTRIES))),
              ((λ q. rw (no-maps q x) (refl, refl)), ((λ q. rw (no-templates q x) (refl, set_same before (place TEMPLATES))), tt)),
            ),
          ),
        ),
      )
      (λ f q.
      rw (f.0, f.1.0, f.1.1.0, f.1.1.1.0, f.1.1.1.1.0, f.1.1.1.1.1.0)
      (rw (no-templates (rw (f.0, f.1.0, f.1.1.0, f.1.1.1.0, f.1.1.1.1.0) at q) x) (refl, refl)))

-- The table of a kind that is kept at a place, by its header's words; none at the place that no blob has.
abbrev pub headed : List ℕ → ℕ → Header
headed s at = record { size = le 4 s (at + 4); count = le 4 s (at + 8) }

abbrev pub kept_at : List ℕ → ℕ → ℕ → List Table
kept_at s k place = choose (eqb place 4294967295) [] (only (run (table_at k place (headed s place)) s))

-- it is there, and fine
abbrev pub Stands : List ℕ → ℕ → ℕ → Type 0
Stands s k place = (place ≡ 4294967295 → ⊥) → (place + header_length k ≤ length s) × (verdict (run (table_at k place (headed s place)) s) ≡ Ok tt)

-- a provider's last table of a kind is kept at its place
module _ (s : List ℕ) (n at k : ℕ) (v : verdict (run (elements_from n at) s) ≡ Ok tt) (place : ℕ) (p : place ≡ place_of (last_of k (values (run (elements_from n at) s)))) where
  found : (h : place ≡ 4294967295 → ⊥) → run (table_at k place (headed s place)) s ≡ done (kept_here s n at k v place p h).0
  found h =
      let t = kept_here s n at k v place p h in
      ap₂ (λ o g. run (table_at k o g) s) (sym t.2) (ap (headed s) (sym t.2) ∙ sym t.3.words) ∙ t.3.found

  pub stands : Stands s k place
  stands h = let t = kept_here s n at k v place p h in (rw t.2 at t.3.fits, ap verdict (found h))

  pub kept-at : length s ≤ 16777216 → last_of k (values (run (elements_from n at) s)) ≡ kept_at s k place
  kept-at l = go (eqb place 4294967295) refl
    where
      go : (b : Bool) → eqb place 4294967295 ≡ b
          → last_of k (values (run (elements_from n at) s)) ≡ choose b [] (only (run (table_at k place (headed s place)) s))
      go true e = kept-nowhere s n at k v place p l (eqb-true _ _ e)
      go false e = let h = eqb-false place 4294967295 e in (kept_here s n at k v place p h).1 ∙ sym (ap only (found h))

-- where a kind's number finds its place
module _ (s : List ℕ) (n at : ℕ) (v : verdict (run (elements_from n at) s) ≡ Ok tt) (ps : List ℕ) (p : ps ≡ placed places.nowhere (values (run (elements_from n at) s))) (k : Kind) (i : ℕ) (e : i ≡ number k) where
  noted : get_or ps i 0 ≡ place_of (last_of (number k) (values (run (elements_from n at) s)))
  noted = let o = one_of-eight k in ap (λ j. get_or ps j 0) e ∙ kind-place s n at ps p o.0 o.1

  pub kind-stands : Stands s (number k) (get_or ps i 0)
  kind-stands = stands s n at (number k) v _ noted

  pub kind-kept : length s ≤ 16777216 → (j : ℕ) → number k ≡ j → last_of j (values (run (elements_from n at) s)) ≡ kept_at s (number k) (get_or ps i 0)
  kind-kept l j q = ap (λ j. last_of j (values (run (elements_from n at) s))) (sym q) ∙ kept-at s n at (number k) v _ noted l

-- a list has something of it: it is somewhere, and its kind has entries in the list
abbrev pub has_any : ℕ → ℕ → ℕ → Bool
has_any l k place = choose (eqb place 4294967295) false (has_entries l k)

pub somewhere : (l k place : ℕ) → has_any l k place ≡ true → (place ≡ 4294967295 → ⊥) × (has_entries l k ≡ true)
somewhere l k place e = go (eqb place 4294967295) refl e
  where
    go : (b : Bool) → eqb place 4294967295 ≡ b → choose b false (has_entries l k) ≡ true → (place ≡ 4294967295 → ⊥) × (has_entries l k ≡ true)
    go true q e = absurd (let z : ◌≡◌ {A = ℕ} 0 1 = cc in omega arith)
    go false q e = (eqb-false place 4294967295 q, e)

pub nowhere : (l k place : ℕ) → has_any l k place ≡ false → (place ≡ 4294967295) ⊎ ((place ≡ 4294967295 → ⊥) × (has_entries l k ≡ false))
nowhere l k place e = go (eqb place 4294967295) refl e
  where
    go : (b : Bool) → eqb place 4294967295 ≡ b → choose b false (has_entries l k) ≡ false → (place ≡ 4294967295) ⊎ ((place ≡ 4294967295 → ⊥) × (has_entries l k ≡ false))
    go true q e = inl (eqb-true place 4294967295 q)
    go false q e = inr (eqb-false place 4294967295 q, e)

-- what it has: what its reading found, or nothing
pub kept-only : (s : List ℕ) (k place : ℕ) (h : Header) → h ≡ headed s place → (place ≡ 4294967295 → ⊥) → kept_at s k place ≡ only (run (table_at k place h) s)
kept-only s k place h e n = rw (ne_eqb place 4294967295 n, e) refl

pub kind-none : (s : List ℕ) (l k place n : ℕ) (before area : List ℕ) → Stands s k place → has_any l k place ≡ false → TablesStored l n before (kept_at s k place) area 0 before area
unfolding table_parts behind_all laid
kind-none s l k place n before area u e = ⊎_elim {C = TablesStored l n before (kept_at s k place) area 0 before area} (λ q. rw q (record { count = refl; behind-is = refl; area_is = refl })) here (nowhere l k place e)
  where
    here : (place ≡ 4294967295 → ⊥) × (has_entries l k ≡ false) → TablesStored l n before (kept_at s k place) area 0 before area
    here f =
        let t = fine-value _ (u f.0).1 in
        let x = not_here k place (headed s place) s t.0 n before t.1 l f.1 in
        rw (kept-only s k place _ refl f.0, t.1, x.0, x.1) (record { count = refl; behind-is = refl; area_is = refl })

-- the next kind's table, and those of the kinds behind it
module _ (es : List Element) (l n left k : ℕ) (before : List ℕ) (h : 0 < left) where
  abbrev others : List Table
  others = kept_from es (left - 1) (k + 1)

  behind_more : behind_all l before (kept_from es left k) ≡ behind_all l (behind_all l before (last_of k es)) others
  behind_more = ap (behind_all l before) (kept_more es left k h) ∙ behind_all-append l before (last_of k es) others

  parts_more : table_parts l n before (kept_from es left k) ≡ table_parts l n before (last_of k es) ++ table_parts l n (behind_all l before (last_of k es)) others
  parts_more = ap (table_parts l n before) (kept_more es left k h) ∙ table_parts_append l n before (last_of k es) others

  module _ {words behind lent area : List ℕ} {to : ℕ} (f : Left words behind lent (table_parts l n before (kept_from es left k)) (behind_all l before (kept_from es left k)) area to) (r : Room words behind lent) where
    apart : Left words behind lent (table_parts l n before (last_of k es) ++ table_parts l n (behind_all l before (last_of k es)) others) (behind_all l (behind_all l before (last_of k es)) others) area to
    apart = rw (parts_more, behind_more) at f

    pub kind-room : (ts : List Table) → last_of k es ≡ ts → (to ≤ length area) × TablesRoom l n before ts (mid_of to (length area - to) area)
    kind-room ts e =
        let x = left-room (table_parts l n before (last_of k es)) _ apart r in
        rw (← e) (x.0, record { fits = x.1; few = few-before l (behind_all l before (last_of k es)) others (subst Counted apart.behind-is r.few) })

    pub kind-left : (ts : List Table) → last_of k es ≡ ts → (m : ℕ) (before' part : List ℕ) → TablesStored l n before ts (mid_of to (length area - to) area) m before' part
        → Left words behind lent (table_parts l n before' others) (behind_all l before' others) (put_mid to (length area - to) area part) (to + m)
    kind-left ts e m before' part s =
        let b = s.behind-is ∙ ap (behind_all l before) (sym e) in
        let w = ap (table_parts l n before) (sym e) in
        rw b (left-more (table_parts l n before (last_of k es)) _ apart r _ part m refl (s.count ∙ ap length w) (s.area_is ∙ ap (laid _ 0) w))
