-- What each test of a map decides, in the order of the tests, and what holds of an accepted map.
use Prim.{Unit, tt}
use Rattle.std.specs.Prelude.{ℕ, zero, suc, ◌+◌, ◌-◌, ◌*◌, ◌≤◌, ◌<◌, min, ◌≡◌, List, Bool, true, false, leb, eqb, length, Ok, Err, Result}
use Rattle.std.proofs.Math.Path.{refl, ap}
use Rattle.std.proofs.Common.{sym, ◌∙◌, arith}
use borrow.Author.Tests.{le-leb, lt-leb, leb-true, eq-eqb, ne_eqb}
use Rattle.blob.specs.declared.Refusal.{Refusal}
use Rattle.blob.specs.Le.{le}
use Rattle.blob.specs.Reading.{Fault, Reading, got, Outcome, done, refused, choose, demand, run, then, ◌>>=◌, number, many, verdict, values}
use Rattle.blob.proofs.Laws.{fine-done, run_bind, run-number, run_room, run_past, run_holds, run-fails, many_more, result_found, result_refused}
use Rattle.blob.proofs.Finds.{Finds, finds-got, finds-room, finds-choose, finds-demand, finds_bind, finds-next}
use Rattle.format.specs.Field.{MAPS_map_offset, MAPS_map_signature, VMAP_size_field, VMAP_header, VMAP_size, VMAP_entries_array, VMAP_map_string}
use Rattle.format.specs.Refuse.{truncated, size_out, offset_out}
use Rattle.format.specs.Region.{blob_end, until, against, inside}
use Rattle.format.specs.Name.{name_at}
use Rattle.format.specs.Definition.{step}
use Rattle.format.specs.Map.{VALUE_MAP, Mapped, VMAP, few, entry_at, value_map_at, other_map, map_at, map_read}
use Rattle.format.specs.declared.Name.{Name}
use Rattle.format.specs.declared.Map.{Map}
use Rattle.format.specs.declared.MapEntry.{MapEntry}

-- a VMAP, its entries aside
abbrev pub value_map : (at size string count : ℕ) → Name → Map
value_map at size string count name =
    record {
      kind = VALUE_MAP;
      signature = VMAP;
      offset = at;
      size = size;
      string = string;
      name = name;
      count = count;
      start = at + 16 + 8 * count;
      length = size - (16 + 8 * count);
    }

-- what the code answers for a VMAP, from what reading its name finds
abbrev pub named_map : (at size string count : ℕ) → Outcome Name → Result Map Refusal
named_map at size string count (done name) = Ok (value_map at size string count name)
named_map at size string count (refused r) = Err r

-- so many entries from a place on
abbrev pub entries : ℕ → ℕ → Reading (List MapEntry)
entries n at = many entry_at (step 8) n at

abbrev pub entry : List ℕ → ℕ → MapEntry
entry s at = record { identifier = le 4 s at; message = le 4 s (at + 4) }

-- entries are never refused
pub entry_found : (at : ℕ) (s : List ℕ) → run (entry_at at) s ≡ done (entry s at)
unfolding run entry_at
entry_found at s = simp run-number

pub entries-fine : (n at : ℕ) (s : List ℕ) → verdict (run (entries n at) s) ≡ Ok tt
unfolding run many
entries-fine zero at s = refl
entries-fine (suc n) at s =
    let e : suc n - 1 ≡ n = omega arith in
    many_more entry_at (step 8) (suc n) at s _ (omega arith) (entry_found at s) ∙ ap (λ k. verdict (run (entries k (at + 8)) s)) e ∙ entries-fine n (at + 8) s

pub run-entries : {B : Type 0} (f : List MapEntry → Reading B) (n at : ℕ) (s : List ℕ) → run (entries n at >>= f) s ≡ run (f (values (run (entries n at) s))) s
unfolding then
run-entries f n at s = run_bind _ _ _ ∙ ap (λ o. then o (λ es. run (f es) s)) (fine-done (run (entries n at) s) (entries-fine n at s))

-- the answer for an outcome
pub is_map : (o : Outcome Mapped) (k : Map) → Ok k ≡ map_read o → (m : Mapped) × (o ≡ done m) × (k ≡ m.map)
is_map o k h = result_found (λ m. m.map) o k h

pub is_refused : (o : Outcome Mapped) (r : Refusal) → Err r ≡ map_read o → o ≡ refused r
is_refused o r h = result_refused (λ m. m.map) o r h

pub refuses : (o : Outcome Mapped) (x y : Refusal) → x ≡ y → o ≡ refused y → Err x ≡ map_read o
refuses o x y p q = ap Err p ∙ sym (ap map_read q)

-- of two tests with one refusal the second fails where the first holds
either_fails : {A : Type 0} (t u : Bool) (r : Fault) (k : Reading A) (s : List ℕ) → (t ≡ true → u ≡ false) → run (demand t r (demand u r k)) s ≡ refused (r.told (length s))
either_fails false u r k s h = run-fails _ _ _ _ refl
either_fails true u r k s h = run_holds _ _ _ _ refl ∙ run-fails _ _ _ _ (h refl)

module _ (e at : ℕ) (s : List ℕ) where
  pub value-cut : length s < at + 8 → run (value_map_at (until e) at) s ≡ refused ((truncated VMAP_size_field at 8).told (length s))
  unfolding value_map_at
  value-cut h = run_past _ _ _ _ h

  module _ (size : ℕ) (es : size ≡ le 4 s (at + 4)) (h : at + 8 ≤ length s) where
    pub value-few : (bytes : ℕ) → bytes ≡ min size (e - at) → bytes < 16
        → run (value_map_at (until e) at) s ≡ refused (record { code = 1; field = VMAP_header; place = at; first = 16; second = bytes })
    unfolding value_map_at inside
    value-few bytes q g =
        run_room _ _ _ _ h
        ∙ run-number _ _ _ _
        ∙ rw (sym es, q) (either_fails (leb 16 size) (leb (at + 16) e) _ _ s (λ p. lt-leb (at + 16) e (omega (arith, leb-true 16 size p))))

    module _ (l : 16 ≤ size) (w : at + 16 ≤ e) where
      pub value-past : e < at + size → run (value_map_at (until e) at) s ≡ refused ((size_out VMAP_size at size).told 0)
      unfolding value_map_at inside
      value-past g =
          run_room _ _ _ _ h
          ∙ run-number _ _ _ _
          ∙ rw (sym es) (run_holds _ _ _ _ (le-leb _ _ l) ∙ run_holds _ _ _ _ (le-leb _ _ w) ∙ run-fails _ _ _ _ (lt-leb _ _ g))

      module _ (string count : ℕ) (eo : string ≡ le 4 s (at + 8)) (ec : count ≡ le 4 s (at + 12)) (g : at + size ≤ e) where
        -- the tests before that of the entries are passed
        behind : (k : ℕ → ℕ → Reading Mapped) → run (demand (leb 16 size) (against (until e) (few at size)) (demand (leb (at + 16) e) (against (until e) (few at size)) (demand (leb (at + size) e) (size_out VMAP_size at size)
            (number 4 (at + 8) >>= λ o. number 4 (at + 12) >>= λ n. k o n)))) s ≡ run (k string count) s
        behind k =
            run_holds _ _ _ _ (le-leb _ _ l)
            ∙ run_holds _ _ _ _ (le-leb _ _ w)
            ∙ run_holds _ _ _ _ (le-leb _ _ g)
            ∙ run-number _ _ _ _
            ∙ run-number _ _ _ _
            ∙ rw (eo, ec)

        pub value-over : size < 16 + 8 * count → run (value_map_at (until e) at) s ≡ refused ((size_out VMAP_entries_array at size).told 0)
        unfolding value_map_at inside
        value-over f = run_room _ _ _ _ h ∙ run-number _ _ _ _ ∙ rw (sym es) (behind _ ∙ run-fails _ _ _ _ (lt-leb _ _ f))

        module _ (f : 16 + 8 * count ≤ size) where
          tested : run (value_map_at (until e) at) s ≡ run (entries count (at + 16) >>= λ es. name_at blob_end VMAP_map_string string >>= λ name. got (record { map = value_map at size string count name; entries = es })) s
          unfolding value_map_at inside
          tested = run_room _ _ _ _ h ∙ run-number _ _ _ _ ∙ rw (sym es) (behind _ ∙ run_holds _ _ _ _ (le-leb _ _ f))

          pub value-named : map_read (run (value_map_at (until e) at) s) ≡ named_map at size string count (run (name_at blob_end VMAP_map_string string) s)
          unfolding run then
          value-named = ap map_read (tested ∙ run-entries _ count (at + 16) s ∙ run_bind (name_at blob_end VMAP_map_string string) _ s) ∙ go (run (name_at blob_end VMAP_map_string string) s)
            where
              go : (o : Outcome Name) → map_read (then o (λ name. done (record { map = value_map at size string count name; entries = values (run (entries count (at + 16)) s) })))
                  ≡ named_map at size string count o
              go (done name) = refl
              go (refused r) = refl

  pub map-past : length s < at → run (map_at (until e) at) s ≡ refused ((offset_out MAPS_map_offset at).told (length s))
  unfolding map_at
  map-past h = run_past _ _ _ _ h

  pub map-cut : at ≤ length s → length s < at + 4 → run (map_at (until e) at) s ≡ refused ((truncated MAPS_map_signature at 4).told (length s))
  unfolding map_at
  map-cut h g = run_room _ _ _ _ h ∙ run_past _ _ _ _ g

  module _ (signature : ℕ) (es : signature ≡ le 4 s at) (h : at + 4 ≤ length s) where
    signed : run (map_at (until e) at) s ≡ run (choose (eqb signature VMAP) (value_map_at (until e) at) (got (other_map (until e) at signature))) s
    unfolding map_at
    signed = run_room _ _ _ _ (omega arith) ∙ run_room _ _ _ _ h ∙ run-number _ _ _ _ ∙ rw (sym es)

    pub map-value : signature ≡ VMAP → run (map_at (until e) at) s ≡ run (value_map_at (until e) at) s
    map-value v = signed ∙ rw (eq-eqb _ _ v)

    pub map_other : (signature ≡ VMAP → ⊥) → run (map_at (until e) at) s ≡ done (other_map (until e) at signature)
    unfolding run
    map_other v = signed ∙ rw (ne_eqb _ _ v)

-- what holds of an accepted map: the entries that its fields tell, within the blob
pub record Told (s : List ℕ) (m : Mapped) : Type 0 where
  pub entries : m.entries ≡ values (run (entries m.map.count (m.map.offset + 16)) s)
  pub inside : 8 * m.map.count ≤ length s - (m.map.offset + 16)

pub map-told : (e at : ℕ) (s : List ℕ) → e ≤ length s → Finds (map_at (until e) at) s (λ m. Told s m)
unfolding map_at value_map_at inside run many
map-told e at s h =
    finds-room (λ a. finds-room (λ b. finds-next 4 at (λ signature es. finds-choose (eqb signature VMAP)
    (λ v. finds-room (λ c. finds-next 4 (at + 4) (λ size ez. finds-demand _ _ (λ l. finds-demand _ _ (λ w. finds-demand _ _ (λ g.
    finds-next 4 (at + 8) (λ o eo. finds-next 4 (at + 12) (λ n en. finds-demand _ _ (λ f.
    finds_bind (λ es. es ≡ values (run (entries n (at + 16)) s)) (record { found = λ es q. sym (ap values q) }) (λ es q.
    finds_bind (λ m. Unit {0}) (record { found = λ m q. tt }) (λ m q'.
    finds-got (record { entries = q; inside = omega (arith, leb-true (at + size) e g, leb-true (16 + 8 * n) size f) }))))))))))))
    (λ v. finds-got (record { entries = refl; inside = omega arith })))))
