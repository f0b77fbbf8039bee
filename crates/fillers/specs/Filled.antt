-- What a filler of a list needs of a table that is fine, and that it then has stored what the list has of it.
use Rattle.std.specs.Prelude.{ℕ, zero, suc, ◌+◌, ◌*◌, ◌≤◌, ◌<◌, ◌≡◌, true, length, get_or, set, Ok}
use Rattle.std.proofs.Math.Path.{refl, ap, sym}
use Rattle.std.proofs.Common.{◌∙◌, subst, mul-suc, arith, length-append, length-set, get_or-set_same}
use mathlib.Core.List.{List, [], ◌∷◌, map, append-nil}
use borrow.Author.Tests.{ne_eqb}
use Rattle.blob.specs.Reading.{Outcome, done, refused, run, many, verdict, values}
use Rattle.blob.specs.Laid.{flat, flat_append, flat_map, laid}
use Rattle.blob.proofs.Laws.{fine-value, length-flat}
use Rattle.format.specs.Area as list
use Rattle.format.specs.Area.{TABLES, DEFINITIONS, EVENTS, ENTRIES, TEMPLATES, ITEMS, AREAS, place, of, more, width}
use Rattle.format.specs.Table.{EVNT, MAPS, TTBL, kind_list, stride}
use Rattle.format.specs.Definition.{step, definitions_at}
use Rattle.format.specs.Event.{event_at}
use Rattle.format.specs.Template.{Template, templates_at}
use Rattle.format.specs.Map.{Mapped, maps_at}
use Rattle.format.specs.Provider.{Rows, Table, table_at}
use Rattle.format.specs.Lists.{definitions_in, events_in, maps_in, templates_in, definition_words, event_words, template_words, item_words, item_list, map_list, map_entry_words}
use Rattle.format.specs.Steps.Needs.{total, entry_count, item_count}
use Rattle.format.specs.Steps.Parts.{Counted, TablesRoom, TablesStored, table_part, table_parts, behind, behind_all}
use Rattle.format.specs.declared.Header.{Header}
use Rattle.counts.specs.Short.{kind_row}
use Rattle.fillers.specs.declared.Trailing.{Trailing}
use Rattle.fillers.specs.Rows.{only, holds_definitions, has_entries, trailing_of, definitions-in, events-in, maps-in, templates-in, table-words, table-behind}

-- tables that have definitions have records
pub definitions-stride : (k : ℕ) → 1 ≤ k → k ≤ 8 → holds_definitions k ≡ true → 12 ≤ stride k
definitions-stride zero h g e = absurd (omega arith)
definitions-stride (suc zero) h g e = omega arith
definitions-stride (suc (suc zero)) h g e = absurd (let z : ◌≡◌ {A = ℕ} 0 1 = cc in omega arith)
definitions-stride (suc (suc (suc zero))) h g e = omega arith
definitions-stride (suc (suc (suc (suc zero)))) h g e = omega arith
definitions-stride (suc (suc (suc (suc (suc zero))))) h g e = absurd (let z : ◌≡◌ {A = ℕ} 0 1 = cc in omega arith)
definitions-stride (suc (suc (suc (suc (suc (suc zero)))))) h g e = omega arith
definitions-stride (suc (suc (suc (suc (suc (suc (suc zero))))))) h g e = omega arith
definitions-stride (suc (suc (suc (suc (suc (suc (suc (suc zero)))))))) h g e = absurd (let z : ◌≡◌ {A = ℕ} 0 1 = cc in omega arith)
definitions-stride (suc (suc (suc (suc (suc (suc (suc (suc (suc k))))))))) h g e = absurd (omega arith)

-- a list that is none of the others is taken for that of templates
module _ (l : ℕ) (t : l ≡ TABLES → ⊥) (d : l ≡ DEFINITIONS → ⊥) (e : l ≡ EVENTS → ⊥) (m : l ≡ list.MAPS → ⊥) (n : l ≡ ENTRIES → ⊥) (i : l ≡ ITEMS → ⊥) where
  pub as_templates : (k : ℕ) → has_entries l k ≡ has_entries TEMPLATES k
  as_templates k = rw (ne_eqb l TABLES t, ne_eqb l DEFINITIONS d, ne_eqb l EVENTS e, ne_eqb l list.MAPS m, ne_eqb l ENTRIES n)

  pub parts-templates : (p : ℕ) (before : List ℕ) (o : Outcome Table)
      → (table_parts l p before (only o) ≡ table_parts TEMPLATES p before (only o)) × (behind_all l before (only o) ≡ behind_all TEMPLATES before (only o))
  unfolding table_parts behind_all table_part
  parts-templates p before (done t') = rw (ne_eqb l TABLES t, ne_eqb l DEFINITIONS d, ne_eqb l EVENTS e, ne_eqb l list.MAPS m, ne_eqb l ENTRIES n, ne_eqb l ITEMS i) (refl, refl)
  parts-templates p before (refused r) = (refl, refl)

-- how many words maps, and their entries, have
maps-words : (n : ℕ) (ms : List Mapped) → length (flat (λ e. e) (map_list n ms)) ≡ width list.MAPS * length ms
unfolding flat map_list
maps-words n [] = refl
maps-words n (m ∷ ms) = simp (maps-words (n + length m.entries) ms, mul-suc) (omega arith)

entries-words : (ms : List Mapped) → length (flat (λ m. flat map_entry_words m.entries) ms) ≡ width ENTRIES * entry_count ms
unfolding flat total
entries-words [] = refl
entries-words (m ∷ ms) = simp (length-append, length-flat map_entry_words (width ENTRIES) (λ x. refl) m.entries, entries-words ms) (omega arith)

-- and how many items have
items-words : (n : ℕ) (ts : List Template) → length (flat (λ e. e) (item_list n ts)) ≡ width ITEMS * item_count ts
unfolding flat item_list total
items-words n [] = refl
items-words n (t ∷ ts) =
    simp (flat_append (λ e. e) (map (item_words n) t.items) (item_list (suc n) ts), length-append, flat_map (λ e. e) (item_words n) t.items, length-flat (item_words n) (width ITEMS) (λ i. refl) t.items, items-words (suc n) ts)
    (omega arith)

module _ (k at : ℕ) (h : Header) (s : List ℕ) (v : verdict (run (table_at k at h) s) ≡ Ok tt) where
  abbrev found : Outcome Table
  found = run (table_at k at h) s

  -- one table is there
  module _ (l n : ℕ) (before : List ℕ) where
    one-part : table_parts l n before (only found) ≡ table_part l n before (fine-value found v).0
    unfolding table_parts
    one-part = ap (λ o. table_parts l n before (only o)) (fine-value found v).1 ∙ append-nil _

    one-behind : behind_all l before (only found) ≡ behind l before (fine-value found v).0
    unfolding behind_all
    one-behind = ap (λ o. behind_all l before (only o)) (fine-value found v).1

    -- what was laid is what the list has of it
    pub stored : (area area' before' ws : List ℕ) (m : ℕ) → table_part l n before (fine-value found v).0 ≡ ws → m ≡ length ws
        → before' ≡ behind l before (fine-value found v).0 → area' ≡ laid area 0 ws → TablesStored l n before (only found) area m before' area'
    stored area area' before' ws m e c b g =
        let p = one-part ∙ e in
        record { count = c ∙ sym (ap length p); behind-is = b ∙ sym one-behind; area_is = g ∙ sym (ap (laid area 0) p) }

    pub roomed : (area ws : List ℕ) → TablesRoom l n before (only found) area → table_part l n before (fine-value found v).0 ≡ ws → length ws ≤ length area
    roomed area ws r e = omega (arith, r.fits, ap length (one-part ∙ e))

  abbrev here : Table
  here = (fine-value found v).0

  -- a list whose entries are words of what a filler reads, by its provider's number, as many as the header says
  abbrev Fills : {B : Type 0} → ℕ → (ℕ → B → List ℕ) → Outcome (List B) → Type 0
  Fills l words o =
      (n : ℕ) (before area : List ℕ) → TablesRoom l n before (only found) area
      → (verdict o ≡ Ok tt)
      × (width l * h.count ≤ length area)
      × ((area' : List ℕ) → area' ≡ laid area 0 (flat (words n) (values o)) → TablesStored l n before (only found) area (width l * h.count) before area')

  plain : {B : Type 0} (l : ℕ) (words : ℕ → B → List ℕ) (items : Rows → List B) → ((n : ℕ) (b : B) → length (words n b) ≡ width l)
      → ((n : ℕ) (before : List ℕ) → table_part l n before here ≡ flat (words n) (items here.rows)) → ((before : List ℕ) → behind l before here ≡ before)
      → (o : Outcome (List B)) → o ≡ done (items here.rows) → length (items here.rows) ≡ h.count → Fills l words o
  plain l words items wide has keeps o e c n before area r =
      let long = length-flat (words n) (width l) (wide n) (items here.rows) ∙ ap (λ m. width l * m) c in (
        ap verdict e,
        omega (arith, roomed l n before area _ r (has n before), long),
        λ area' g. stored l n before area area' before _ _ (has n before) (sym long) (sym (keeps before)) (g ∙ ap (λ x. laid area 0 (flat (words n) (values x))) e),
      )

  pub fills_definitions : holds_definitions k ≡ true → Fills DEFINITIONS (λ n. definition_words) (run (definitions_at k at h) s)
  unfolding table_part
  fills_definitions q =
      let x = definitions-in k at h s here (fine-value found v).1 q in
      plain DEFINITIONS (λ n. definition_words) definitions_in (λ n d. refl) (λ n before. refl) (λ before. refl) _ x.0 x.1

  pub fills_events : k ≡ EVNT → Fills EVENTS (λ n. event_words) (run (many event_at (step 48) h.count (at + 16)) s)
  unfolding table_part
  fills_events q =
      let x = events-in k at h s here (fine-value found v).1 q in
      plain EVENTS (λ n. event_words) events_in (λ n d. refl) (λ n before. refl) (λ before. refl) _ x.0 x.1

  pub events-room : k ≡ EVNT → at + 16 + 48 * h.count ≤ length s
  events-room q = (events-in k at h s here (fine-value found v).1 q).2

  pub fills_templates : k ≡ TTBL → Fills TEMPLATES template_words (run (templates_at at h) s)
  unfolding table_part
  fills_templates q =
      let x = templates-in k at h s here (fine-value found v).1 q in
      plain TEMPLATES template_words templates_in (λ n t. refl) (λ n before. refl) (λ before. refl) _ x.0 x.1

  -- list 8: the entries of maps
  pub fills_entries : k ≡ MAPS → (n : ℕ) (before area : List ℕ) → TablesRoom ENTRIES n before (only found) area
      → (verdict (run (maps_at at h) s) ≡ Ok tt)
      × (width ENTRIES * entry_count (values (run (maps_at at h) s)) ≤ length area)
      × ((m : ℕ) (area' : List ℕ) → m ≡ width ENTRIES * entry_count (values (run (maps_at at h) s))
      → area' ≡ laid area 0 (flat (λ m. flat map_entry_words m.entries) (values (run (maps_at at h) s))) → TablesStored ENTRIES n before (only found) area m before area')
  unfolding table_part
  fills_entries q n before area r =
      let x = maps-in k at h s here (fine-value found v).1 q in
      let long = entries-words (maps_in here.rows) in
      rw x.0 (refl, omega (arith, roomed ENTRIES n before area _ r refl, long), λ m area' e g. stored ENTRIES n before area area' before _ m refl (e ∙ sym long) refl g)

  -- so many more in a list are few
  few-more : (l m : ℕ) (ns : List ℕ) → place l < AREAS → Counted (more l m ns) → of l ns + m ≤ 65536
  few-more l m ns p f = omega (arith, f.0 (place l), get_or-set_same ns (place l) (of l ns + m) 0 (omega (arith, f.1, length-set ns (place l) (of l ns + m))))

  -- list 7: the maps, whose entries are counted
  pub fills_maps : k ≡ MAPS → (n : ℕ) (before area : List ℕ) → TablesRoom list.MAPS n before (only found) area
      → (verdict (run (maps_at at h) s) ≡ Ok tt)
      × (width list.MAPS * h.count ≤ length area)
      × (of ENTRIES before + entry_count (values (run (maps_at at h) s)) ≤ 65536)
      × ((m : ℕ) (area' : List ℕ) → m ≡ of ENTRIES before + entry_count (values (run (maps_at at h) s))
      → area' ≡ laid area 0 (flat (λ e. e) (map_list (of ENTRIES before) (values (run (maps_at at h) s))))
      → TablesStored list.MAPS n before (only found) area (width list.MAPS * h.count) (set before (place ENTRIES) m) area')
  unfolding table_part
  fills_maps q n before area r =
      let x = maps-in k at h s here (fine-value found v).1 q in
      let long = maps-words (of ENTRIES before) (maps_in here.rows) ∙ ap (λ m. width list.MAPS * m) x.1 in
      rw x.0 (
        refl,
        omega (arith, roomed list.MAPS n before area _ r refl, long),
        few-more ENTRIES _ before (omega arith) (subst Counted (one-behind list.MAPS n before) r.few),
        λ m area' e g. stored list.MAPS n before area area' _ _ _ refl (sym long) (ap (set before (place ENTRIES)) e) g,
      )

  -- list 12: the items, by their templates, which are counted
  pub fills_items : k ≡ TTBL → (n : ℕ) (before area : List ℕ) → TablesRoom ITEMS n before (only found) area
      → (verdict (run (templates_at at h) s) ≡ Ok tt)
      × (width ITEMS * item_count (values (run (templates_at at h) s)) ≤ length area)
      × (of TEMPLATES before + h.count ≤ 65536)
      × ((m : ℕ) (area' : List ℕ) → m ≡ width ITEMS * item_count (values (run (templates_at at h) s))
      → area' ≡ laid area 0 (flat (λ e. e) (item_list (of TEMPLATES before) (values (run (templates_at at h) s))))
      → TablesStored ITEMS n before (only found) area m (more TEMPLATES h.count before) area')
  unfolding table_part
  fills_items q n before area r =
      let x = templates-in k at h s here (fine-value found v).1 q in
      let long = items-words (of TEMPLATES before) (templates_in here.rows) in
      let counts = ap (λ m. more TEMPLATES m before) x.1 in
      rw x.0 (
        refl,
        omega (arith, roomed ITEMS n before area _ r refl, long),
        few-more TEMPLATES _ before (omega arith) (subst Counted (one-behind ITEMS n before ∙ counts) r.few),
        λ m area' e g. stored ITEMS n before area area' _ _ _ refl (e ∙ sym long) (sym counts) g,
      )

  -- list 4: the table itself, whose entries are counted
  module _ (one : 1 ≤ k) (most : k ≤ 8) (n : ℕ) (before area : List ℕ) (r : TablesRoom TABLES n before (only found) area) where
    pub table-room : (width TABLES ≤ length area) × (of (kind_list k) before + h.count ≤ 65536)
    unfolding table_part
    table-room = (
      roomed TABLES n before area _ r refl,
      few-more (kind_list k) h.count before (kind_row k one most) (subst Counted (one-behind TABLES n before ∙ table-behind k at h s here (fine-value found v).1 one most before) r.few),
    )

    pub table-stored : (x : Trailing) (i : ℕ) (area' : List ℕ) → x ≡ trailing_of found → i ≡ place (kind_list k)
        → area' ≡ laid area 0 (n ∷ k ∷ at ∷ h.size ∷ x.extra ∷ get_or before i 0 ∷ h.count ∷ x.start ∷ x.length ∷ [])
        → TablesStored TABLES n before (only found) area (width TABLES) (set before i (get_or before i 0 + h.count)) area'
    table-stored x i area' e j g =
        let e' = (fine-value found v).1 in
        stored TABLES n before area area' _ _ _ (sym (table-words k at h s here e' one most x n _ before e (ap (λ m. get_or before m 0) j))) refl
        (ap (λ m. set before m (get_or before m 0 + h.count)) j ∙ sym (table-behind k at h s here e' one most before)) g
