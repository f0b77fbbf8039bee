-- What a reading of a definition's record finds, by its kind, and one of a table of them.
use Rattle.std.specs.Prelude.{ℕ, suc, ◌+◌, ◌-◌, ◌*◌, ◌≤◌, ◌<◌, ◌≡◌, List, Bool, eqb, length, Ok, Err}
use Rattle.std.proofs.Math.Path.{refl}
use Rattle.std.proofs.Common.{ap, sym, ◌∙◌, add_comm, mul-suc, arith}
use Rattle.std.proofs.Math.Nat.{mul-le-mul_left}
use Rattle.std.proofs.Math.Bool.{true, false}
use Rattle.blob.specs.Le.{le}
use Rattle.blob.specs.Reading.{Reading, Outcome, done, refused, choose, run, many, verdict}
use Rattle.blob.proofs.Laws.{fine-value, refused-value, bind_fine, run-number, run-after, run-stopped}
use Rattle.format.specs.Region.{blob_end, until}
use Rattle.format.proofs.Theorems.Until.{name-until}
use Rattle.words.specs.Guid.{guid-found}
use Rattle.format.specs.Name.{absent, name_at}
use Rattle.format.specs.Table.{CHAN, KEYW, TASK, header_length, stride, table_end}
use Rattle.format.specs.Definition.{guid_at, channel_fields, keyword_fields, task_fields, plain_fields, fields_at, name_field, named, definition_at, step, definitions_at}
use Rattle.blob.specs.declared.Refusal.{Refusal}
use Rattle.format.specs.declared.Guid.{Guid}
use Rattle.format.specs.declared.Name.{Name}
use Rattle.format.specs.declared.Definition.{Definition}
use Rattle.format.specs.declared.Header.{Header}

-- a task's fields, once its GUID is read
pub task_found : (at : ℕ) (s : List ℕ) (g : Guid) → run (guid_at (at + 8)) s ≡ done g
    → run (task_fields at) s
    ≡ done (record { kind = TASK; low = le 4 s at; high = 0; message = le 4 s (at + 4); offset = le 4 s (at + 24); name = absent; unknown = 0; mui = g })
unfolding task_fields run
task_found at s g e = rw (run-number, run-number, run-after (guid_at (at + 8)) _ s g e, run-number)

-- a record's fields and its name make the definition
module _ (k at : ℕ) (s : List ℕ) (d : Definition) (fields : run (fields_at k at) s ≡ done d) (f : ℕ) (field : f ≡ name_field k) where
  pub definition_refused : (r : Refusal) → run (name_at blob_end f d.offset) s ≡ refused r → run (definition_at k at) s ≡ refused r
  unfolding definition_at
  definition_refused r e =
      run-after (fields_at k at) _ s d fields ∙ run-stopped (name_at blob_end (name_field k) d.offset) _ s r (rw field at e)

  pub definition_found : (n : Name) → run (name_at blob_end f d.offset) s ≡ done n → run (definition_at k at) s ≡ done (named d n)
  unfolding definition_at run
  definition_found n e =
      run-after (fields_at k at) _ s d fields ∙ run-after (name_at blob_end (name_field k) d.offset) _ s n (rw field at e)

  -- a definition that is fine has a name that is
  pub name-fine : verdict (run (definition_at k at) s) ≡ Ok tt → verdict (run (name_at (until (length s)) f d.offset) s) ≡ Ok tt
  unfolding definition_at
  name-fine v =
      let n = bind_fine (name_at blob_end (name_field k) d.offset) _ s (ap verdict (sym (run-after (fields_at k at) _ s d fields)) ∙ v) in
      rw field (ap verdict (sym (name-until blob_end (name_field k) d.offset s) ∙ n.1))

-- where the name offset stands in a record
abbrev pub name_place : ℕ → ℕ
name_place k = choose (eqb k CHAN) 4 (choose (eqb k KEYW) 12 (choose (eqb k TASK) 24 8))

-- fields that are found, with such a name offset
abbrev Offers : ℕ → Outcome Definition → Type 0
Offers o (done d) = d.offset ≡ o
Offers o (refused r) = ⊥

module _ (k at : ℕ) (s : List ℕ) where
  offers : Offers (le 4 s (at + name_place k)) (run (fields_at k at) s)
  unfolding fields_at channel_fields keyword_fields plain_fields run
  offers = go (eqb k CHAN) (eqb k KEYW) (eqb k TASK)
    where
      go : (c w t : Bool)
          → Offers (le 4 s (at + choose c 4 (choose w 12 (choose t 24 8)))) (run (choose c (channel_fields at) (choose w (keyword_fields at) (choose t (task_fields at) (plain_fields k at)))) s)
      go true w t = simp run-number refl
      go false true t = simp run-number refl
      go false false true = rw (task_found at s _ (guid-found (at + 8) s))
      go false false false = simp run-number refl

  -- a record is fine where its name is
  module _ (f : ℕ) (field : f ≡ name_field k) (p : ℕ) (place : p ≡ name_place k) (o : ℕ) (offset : o ≡ le 4 s (at + p)) where
    pub record_refused : (r : Refusal) → Err r ≡ verdict (run (name_at (until (length s)) f o) s) → run (definition_at k at) s ≡ refused r
    record_refused r h = go (run (fields_at k at) s) refl offers
      where
        go : (x : Outcome Definition) → run (fields_at k at) s ≡ x → Offers (le 4 s (at + name_place k)) x → run (definition_at k at) s ≡ refused r
        go (done d) e w = definition_refused k at s d e f field r (name-until blob_end f d.offset s ∙ rw (w ∙ ap (λ q. le 4 s (at + q)) (sym place) ∙ sym offset) (refused-value _ r h))
        go (refused q) e w = absurd w

    pub record_found : Ok tt ≡ verdict (run (name_at (until (length s)) f o) s) → (d : Definition) × (run (definition_at k at) s ≡ done d)
    record_found h = go (run (fields_at k at) s) refl offers
      where
        go : (x : Outcome Definition) → run (fields_at k at) s ≡ x → Offers (le 4 s (at + name_place k)) x → (d : Definition) × (run (definition_at k at) s ≡ done d)
        go (done d) e w =
            let n = fine-value (run (name_at (until (length s)) f o) s) (sym h) in
            (named d n.0, definition_found k at s d e f field n.0 (name-until blob_end f d.offset s ∙ rw (w ∙ ap (λ q. le 4 s (at + q)) (sym place) ∙ sym offset) n.1))
        go (refused q) e w = absurd w

-- n records of a kind in a row, of so many bytes each
abbrev pub rows : ℕ → ℕ → ℕ → ℕ → Reading (List Definition)
rows k bytes n at = many (definition_at k) (step bytes) n at

-- the first of the records that are left, and the others
pub one_less : (w left : ℕ) → 0 < left → w * left ≡ w + w * (left - 1)
one_less w left h =
    let e : left ≡ suc (left - 1) = omega arith in
    ap (λ n. w * n) e ∙ mul-suc w (left - 1) ∙ add_comm (w * (left - 1)) w

-- the i-th of n records ends in the row
pub below_whole : (w i n : ℕ) → i < n → w * i + w ≤ w * n
below_whole w i n h = omega (arith, mul-suc w i, mul-le-mul_left w h)

-- a table of definitions is its records, where it ends
module _ (k at : ℕ) (h : Header) (s : List ℕ) where
  pub table-refused : (r : Refusal) → run (table_end k at h) s ≡ refused r → run (definitions_at k at h) s ≡ refused r
  unfolding definitions_at
  table-refused r e = run-stopped (table_end k at h) _ s r e

  pub table-rows : (e : ℕ) → run (table_end k at h) s ≡ done e → run (definitions_at k at h) s ≡ run (rows k (stride k) h.count (at + header_length k)) s
  unfolding definitions_at
  table-rows e g = run-after (table_end k at h) _ s e g

  -- a table that is fine ends
  pub table-ends : verdict (run (definitions_at k at h) s) ≡ Ok tt → (e : ℕ) × (run (table_end k at h) s ≡ done e)
  unfolding definitions_at
  table-ends v = let b = bind_fine (table_end k at h) _ s v in (b.0, b.1)
