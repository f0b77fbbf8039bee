-- What is counted of a provider's elements: those of no known kind, and what the entries of each kind's last table have.
use Prim.Native.Nat.{ℕ, suc, ◌+◌, ◌-◌, ◌≤◌, ◌<◌}
use Rattle.std.specs.Prelude.{◌≡◌, Bool, true, false, get_or, set, drop, replicate, eqb, Ok, Err, Result}
use Rattle.std.proofs.Math.Path.{refl, ap}
use Rattle.std.proofs.Common.{sym, ◌∙◌, eqb-true, zero-add}
use mathlib.Core.List.{List, [], ◌∷◌, map, append-nil}
use native.Mathlib.Omega.{arith}
use Rattle.std.proofs.Math.ListN.{length}
use Rattle.std.proofs.lemmas.Bool.{eqb-false}
use Rattle.blob.specs.Le.{le}
use Rattle.blob.specs.Laid.{flat, flat_append}
use Rattle.blob.specs.declared.Refusal.{Refusal}
use Rattle.blob.specs.Reading.{Outcome, done, refused, choose, run, many, verdict, values, as_result}
use Rattle.format.specs.Table.{MAPS, TTBL, kinds, kind_of}
use Rattle.format.specs.Definition.{step}
use Rattle.format.specs.Provider.{Rows, definitions, events, maps, templates, Table, Element, descriptor_at, unknown_at, element_of, element_at, elements_from}
use Rattle.format.specs.Lists.{last_of, list_of, kept, unknowns, definitions_in, events_in, maps_in, templates_in}
use Rattle.format.specs.Answer.{capped}
use Rattle.format.specs.Area as area
use Rattle.format.specs.Steps.Needs.{inner, entries_in, items_in, entries_of, element_read}
use Rattle.format.specs.declared.Descriptor.{Descriptor}
use Rattle.element.specs.declared.Elements.{Elements}
use Rattle.element.specs.Tables.{Kept, kind-most, is_unknown, is_table, kept-one}
use Rattle.element.specs.Elements.{from-none, from-stop, from_told, last_or}
use Rattle.element.specs.Places.{nowhere, noted, placed, known, noted-known, Standing, standing}
use Rattle.element.specs.Sums.{grown_all, grown-all}
use Rattle.format.proofs.Theorems.Needed.{total-length, after-all}
use Rattle.blob.proofs.Laws.{result_found, result_refused, fine-value}

-- how many entries a table's entries have, as far as they are counted
abbrev pub held : Table → ℕ
held t = capped (inner t.rows)

abbrev pub nothing : List ℕ
nothing = replicate 9 0

-- what the code answers for a provider's elements once so many elements of no known kind were counted, and so many entries of each kind's
-- last table, and these places were known: no place where no table is kept
abbrev pub read_from : ℕ → List ℕ → List ℕ → Outcome (List Element) → Result Elements Refusal
read_from u ns ps o = as_result (λ es. record { unknown = u + length (unknowns es); entries = noted held ns (known es); places = placed ps (known es) }) o

-- and from the start
abbrev pub elements_read : Outcome (List Element) → Result Elements Refusal
elements_read o = read_from 0 nothing nowhere o

pub read_none : (s : List ℕ) (left at u : ℕ) (ns ps : List ℕ) → left ≤ 0
    → read_from u ns ps (run (elements_from left at) s) ≡ Ok (record { unknown = u; entries = ns; places = ps })
unfolding unknowns known noted
read_none s left at u ns ps h = ap (read_from u ns ps) (from-none s left at h) ∙ (let e : u + 0 ≡ u = omega arith in rw e)

-- what the answer for an element tells of its reading
is_fine : (o : Outcome Element) (x : ℕ) → Ok x ≡ element_read o → (e : Element) × (o ≡ done e) × (x ≡ capped (entries_of e))
is_fine o x h = result_found (λ e. capped (entries_of e)) o x h

pub is_refused : (o : Outcome Element) (r : Refusal) → Err r ≡ element_read o → o ≡ refused r
is_refused o r h = result_refused (λ e. capped (entries_of e)) o r h

-- an element of no known kind comes before the others of none; another changes nothing
module _ (s : List ℕ) (d : Descriptor) (e : Element) (i : run (element_at d) s ≡ done e) (es : List Element) where
  pub unknown-here : kind_of d.signature ≡ 0
      → unknowns (e ∷ es) ≡ record { signature = le 4 s d.offset; offset = d.offset; size = le 4 s (d.offset + 4) } ∷ unknowns es
  unfolding element_at unknowns
  unknown-here q = rw (is_unknown s d.offset e (rw q at i)).0

  pub unknown-fits : kind_of d.signature ≡ 0 → d.offset + 8 ≤ length s
  unfolding element_at
  unknown-fits q = (is_unknown s d.offset e (rw q at i)).1

  pub unknown-other : (kind_of d.signature ≡ 0 → ⊥) → unknowns (e ∷ es) ≡ unknowns es
  unfolding element_at unknowns
  unknown-other q =
      let one : 1 ≤ kind_of d.signature = omega arith in
      rw (is_table s _ d.offset e one (kind-most d.signature) i).1

  -- the counts before an element are those behind it
  unknown-counts : (u : ℕ) (n ps : List ℕ) → kind_of d.signature ≡ 0 → read_from u n ps (done (e ∷ es)) ≡ read_from (u + 1) n ps (done es)
  unfolding element_at unknowns known
  unknown-counts u n ps q =
      let z : u + suc (length (unknowns es)) ≡ u + 1 + length (unknowns es) = omega arith in
      rw ((is_unknown s d.offset e (rw q at i)).0, z)

  table-counts : (u x k : ℕ) (ns ps : List ℕ) → 1 ≤ k → k ≡ kind_of d.signature → x ≡ capped (entries_of e)
      → read_from u ns ps (done (e ∷ es)) ≡ read_from u (set ns k x) (set ps k d.offset) (done es)
  unfolding element_at unknowns known noted
  table-counts u x k ns ps one q p =
      let t = is_table s k d.offset e one (rw (sym q) at (kind-most d.signature)) (rw (sym q) at i) in
      rw (p, t.1, t.3.kind, t.2)

-- The next element: a refusal, one of no known kind, and a table.
pub as_unknown : (k at : ℕ) (s : List ℕ) → k ≡ 0 → run (element_of k at) s ≡ run (unknown_at at) s
unfolding element_of
as_unknown k at s z = rw z

module _ (s : List ℕ) (left at : ℕ) (h : 0 < left) (d : Descriptor) (found : run (descriptor_at at) s ≡ done d) (k : ℕ) (q : k ≡ kind_of d.signature) (u : ℕ) (n ps : List ℕ) where
  same_element : run (element_at d) s ≡ run (element_of k d.offset) s
  unfolding element_at
  same_element = rw q

  pub read_stop : (r : Refusal) → run (element_of k d.offset) s ≡ refused r → verdict (run (many descriptor_at (step 8) left at) s) ≡ Ok tt
      → read_from u n ps (run (elements_from left at) s) ≡ Err r
  read_stop r f v = ap (read_from u n ps) (from-stop s left at h d found r (same_element ∙ f) v)

  pub read_unknown : k ≡ 0 → verdict (run (unknown_at d.offset) s) ≡ Ok tt
      → read_from u n ps (run (elements_from left at) s) ≡ read_from (u + 1) n ps (run (elements_from (left - 1) (at + 8)) s)
  read_unknown z f =
      let e = fine-value _ f in
      let i = same_element ∙ as_unknown k _ s z ∙ e.1 in
      from_told s left at h d found (read_from u n ps) (read_from (u + 1) n ps) e.0 (λ es. unknown-counts s d e.0 i es u n ps (sym q ∙ z)) (λ r. refl) i

  pub read_table : 1 ≤ k → (x : ℕ) → Ok x ≡ element_read (run (element_of k d.offset) s)
      → read_from u n ps (run (elements_from left at) s) ≡ read_from u (set n k x) (set ps k d.offset) (run (elements_from (left - 1) (at + 8)) s)
  read_table one x f =
      let e = is_fine _ x f in
      let i = same_element ∙ e.1 in
      from_told s left at h d found (read_from u n ps) (read_from u (set n k x) (set ps k d.offset)) e.0 (λ es. table-counts s d e.0 i es u x k n ps one q e.2) (λ r. refl) i

-- Of the kept tables only that of one kind has some entries: those are counted.
module _ (s : List ℕ) (c at : ℕ) (v : verdict (run (elements_from c at) s) ≡ Ok tt) {B : Type 0} (items : Rows → List B) (k : ℕ)
    (alone : (j : ℕ) (t : Table) → Kept j s t → (j ≡ k → ⊥) → items t.rows ≡ []) where
  abbrev es : List Element
  es = values (run (elements_from c at) s)

  abbrev items_of : List Table → List B
  items_of ts = flat (λ t. items t.rows) ts

  of_one : (j : ℕ) → items_of (last_of j es) ≡ choose (eqb j k) (items_of (last_of k es)) []
  unfolding flat
  of_one j = go (eqb j k) refl
    where
      other : (j ≡ k → ⊥) → (l : List Table) → last_of j es ≡ l → items_of l ≡ []
      other q [] e = refl
      other q (t ∷ ts) e = let o = kept-one s c at j t ts v e in rw (o.0, alone j t o.1 q)

      go : (b : Bool) → eqb j k ≡ b → items_of (last_of j es) ≡ choose b (items_of (last_of k es)) []
      go true e = rw (eqb-true j k e)
      go false e = other (eqb-false j k e) (last_of j es) refl

  of-kinds : (ks : List ℕ) → items_of (flat (λ j. last_of j es) ks) ≡ flat (λ j. choose (eqb j k) (items_of (last_of k es)) []) ks
  unfolding flat
  of-kinds [] = refl
  of-kinds (j ∷ ks) = flat_append (λ t. items t.rows) (last_of j es) _ ∙ rw (of_one j, of-kinds ks)

  pub kept-held : ((t : Table) → Kept k s t → inner t.rows ≡ length (items t.rows)) → flat (λ j. choose (eqb j k) (items_of (last_of k es)) []) kinds ≡ items_of (last_of k es)
      → last_or held 0 (last_of k es) ≡ capped (length (items_of (kept es)))
  unfolding flat
  kept-held counts one = go (last_of k es) refl ∙ ap (λ (xs : List B). capped (length xs)) (sym (of-kinds kinds ∙ one))
    where
      go : (l : List Table) → last_of k es ≡ l → last_or held 0 l ≡ capped (length (items_of l))
      go [] e = refl
      go (t ∷ ts) e = let o = kept-one s c at k t ts v e in rw (o.0, append-nil (items t.rows), counts t o.1)

-- What each list needs for a provider's elements, in the order of the rows.
abbrev pub needs_of : List Element → List ℕ
needs_of es =
    0 ∷ 0 ∷ 0
    ∷ length (kept es)
    ∷ length (flat (λ t. definitions_in t.rows) (kept es))
    ∷ length (flat (λ t. events_in t.rows) (kept es))
    ∷ length (flat (λ t. maps_in t.rows) (kept es))
    ∷ length (flat (λ t. entries_in t.rows) (kept es))
    ∷ length (flat (λ t. templates_in t.rows) (kept es))
    ∷ length (unknowns es)
    ∷ length (flat (λ t. items_in t.rows) (kept es))
    ∷ []

abbrev pub needed_for : Outcome (List Element) → Result (List ℕ) Refusal
needed_for o = as_result (λ es. map capped (needs_of es)) o

-- what the answer for the elements tells of their reading
pub is_elements : (o : Outcome (List Element)) (e : Elements) → Ok e ≡ elements_read o
    → (verdict o ≡ Ok tt)
    × Standing e.places (values o)
    × ((k : ℕ) → 1 ≤ k → k ≤ 8 → get_or e.entries k 0 ≡ last_or held 0 (last_of k (values o)))
    × (e.unknown ≡ length (unknowns (values o)))
is_elements o e h = let f = result_found _ o e h in go f.0 o f.1 f.2
  where
    go : (es : List Element) (o : Outcome (List Element)) → o ≡ done es → e ≡ record { unknown = 0 + length (unknowns es); entries = noted held nothing (known es); places = placed nowhere (known es) }
        → (verdict o ≡ Ok tt)
        × Standing e.places (values o)
        × ((k : ℕ) → 1 ≤ k → k ≤ 8 → get_or e.entries k 0 ≡ last_or held 0 (last_of k (values o)))
        × (e.unknown ≡ length (unknowns (values o)))
    go es o f g = rw (f, g) (refl, standing es, noted-known held es, zero-add (length (unknowns es)))

pub no-elements : (o : Outcome (List Element)) (r : Refusal) → Err r ≡ elements_read o → o ≡ refused r
no-elements o r h = result_refused _ o r h

-- a MAPS has map entries, a TTBL has items
of-maps : (r : Rows) → list_of r ≡ area.MAPS → inner r ≡ length (entries_in r)
of-maps (definitions ds) h = absurd (omega arith)
of-maps (events es) h = absurd (omega arith)
of-maps (maps ms) h = total-length (λ m. m.entries) ms
of-maps (templates ts) h = absurd (omega arith)

of-templates : (r : Rows) → list_of r ≡ area.TEMPLATES → inner r ≡ length (items_in r)
of-templates (definitions ds) h = absurd (omega arith)
of-templates (events es) h = absurd (omega arith)
of-templates (maps ms) h = absurd (omega arith)
of-templates (templates ts) h = total-length (λ t. t.items) ts

-- the numbers, once the kept tables are counted
module _ (s : List ℕ) (c at : ℕ) (v : verdict (run (elements_from c at) s) ≡ Ok tt) where
  abbrev all : List Element
  all = values (run (elements_from c at) s)

  entries-held : last_or held 0 (last_of MAPS all) ≡ capped (length (flat (λ t. entries_in t.rows) (kept all)))
  unfolding flat
  entries-held =
      kept-held s c at v entries_in MAPS (λ j t k q. rw (k.told.no-maps q)) (λ t k. of-maps t.rows (k.told.list k.known.0 k.known.1)) (append-nil _)

  items-held : last_or held 0 (last_of TTBL all) ≡ capped (length (flat (λ t. items_in t.rows) (kept all)))
  unfolding flat
  items-held =
      kept-held s c at v items_in TTBL (λ j t k q. rw (k.told.no-templates q)) (λ t k. of-templates t.rows (k.told.list k.known.0 k.known.1)) (append-nil _)

  pub counts-told : (ns : List ℕ) → ns ≡ grown_all area.none (kept all)
      → (tables entries items others : ℕ) → tables ≤ 8 → tables ≡ length (kept all)
      → entries ≡ last_or held 0 (last_of MAPS all) → items ≡ last_or held 0 (last_of TTBL all) → others ≡ capped (0 + length (unknowns all))
      → set (set (set (set ns (area.place area.TABLES) tables) (area.place area.ENTRIES) entries) (area.place area.ITEMS) items) (area.place area.UNKNOWN) others ≡ map capped (needs_of all)
  counts-told ns e tables entries items others few et ee ei eu =
      let ts = kept all in
      let x : tables ≡ capped (length ts) = omega arith in
      let y = ee ∙ entries-held in
      let i = ei ∙ items-held in
      let z : others ≡ capped (length (unknowns all)) = eu ∙ ap capped (zero-add _) in
      let w = e ∙ grown-all area.none ts ∙ ap (map capped) (after-all 0 0 0 0 0 (drop 9 area.none) ts 0 0 0 0) in
      ap (λ (l : List ℕ). set (set (set (set l (area.place area.TABLES) tables) (area.place area.ENTRIES) entries) (area.place area.ITEMS) items) (area.place area.UNKNOWN) others) w ∙ simp (x, y, i, z, zero-add)
