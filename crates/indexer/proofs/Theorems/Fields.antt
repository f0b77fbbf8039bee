-- No field of an event that was read is past its width: the fields are what their bytes can say.
use Rattle.std.specs.Prelude.{ℕ, zero, suc, ◌+◌, ◌^◌, ◌<◌, ◌≡◌, refl, Bool, true, List, [], ◌∷◌, ◌++◌, map, length, take, leb, eqb}
use Rattle.std.proofs.Common.{arith, le-leb}
use Rattle.blob.specs.Le.{le}
use Rattle.blob.specs.Reading.{done}
use Rattle.blob.proofs.Laws.{both}
use Rattle.blob.proofs.Finds.{Finds, finds-got, finds-choose, finds_bind, finds-next}
use Rattle.blob.specs.Laid.{flat}
use Rattle.blob.specs.Places.{Each}
use Rattle.format.specs.Table.{EVNT, MAPS, TTBL}
use Rattle.format.specs.Event.{event_at}
use Rattle.format.specs.Provider.{Table, table_at, events_at}
use Rattle.format.specs.Crim.{Crim, crim}
use Rattle.format.specs.Lists.{Entry, event_words, Owned, owned_tables, events_in}
use Rattle.format.specs.Lookup.{every}
use Rattle.format.proofs.Theorems.Block.{byte_at}
use Rattle.format.proofs.Theorems.Known.{All, all-part, anything, finds-many, each-kept, each_owned_lem}
use Rattle.format.specs.declared.Header.{Header}
use Rattle.number.specs.Number.{BYTE, HALF}
use Rattle.index.specs.Index.{fit, fields_fit}

-- a number of so many bytes
le-small : (s : List ℕ) → Each (λ b. b < 256) s → (w p : ℕ) → le w s p < 256 ^ w
unfolding le
le-small s b zero p = omega arith
le-small s b (suc w) p = omega (arith, byte_at s p b, le-small s b w (p + 1))

-- entries that each pass a test, in a row and of values in a row
every-then : (p : Entry → Bool) (xs ys : List Entry) → every p xs ≡ true → every p ys ≡ true → every p (xs ++ ys) ≡ true
unfolding every
every-then p [] ys g h = h
every-then p (x ∷ xs) ys g h = let t = both (p x) _ g in rw t.0 (every-then p xs ys t.1 h)

every-flat : {A : Type 0} (p : Entry → Bool) (f : A → List Entry) (vs : List A) → All (λ a. every p (f a) ≡ true) vs → every p (flat f vs) ≡ true
unfolding flat every
every-flat p f [] h = refl
every-flat p f (a ∷ vs) h = every-then p (f a) (flat f vs) h.0 (every-flat p f vs h.1)

every_map : {A : Type 0} (p : Entry → Bool) (f : A → Entry) (vs : List A) → All (λ a. p (f a) ≡ true) vs → every p (map f vs) ≡ true
unfolding every
every_map p f [] h = refl
every_map p f (a ∷ vs) h = rw h.0 (every_map p f vs h.1)

abbrev EventsFit : Table → Type 0
EventsFit t = every (λ e. fields_fit e) (map event_words (events_in t.rows)) ≡ true

-- an event's fields are what its bytes can say
module _ (s : List ℕ) (b : Each (λ b. b < 256) s) where
  byte : (p n : ℕ) → n ≡ le 1 s p → leb n BYTE ≡ true
  byte p n e = le-leb n BYTE (omega (arith, le-small s b 1 p))

  half : (p n : ℕ) → n ≡ le 2 s p → leb n HALF ≡ true
  half p n e = le-leb n HALF (omega (arith, le-small s b 2 p))

  event-fits : (at : ℕ) → Finds (event_at at) s (λ e. fields_fit (event_words e) ≡ true)
  unfolding event_at fit
  event-fits at =
      finds-next 2 _ (λ i ei. finds-next 1 _ (λ v ev. finds-next 1 _ (λ c ec. finds-next 1 _ (λ l el. finds-next 1 _ (λ o eo. finds-next 2 _ (λ t et.
      finds-next 4 _ (λ _ _. finds-next 4 _ (λ _ _. finds-next 4 _ (λ _ _. finds-next 4 _ (λ _ _. finds-next 4 _ (λ _ _.
      finds-next 4 _ (λ _ _. finds-next 4 _ (λ _ _. finds-next 4 _ (λ _ _. finds-next 4 _ (λ _ _. finds-next 4 _ (λ _ _.
      finds-got (rw (half _ i ei, byte _ v ev, byte _ c ec, byte _ l el, byte _ o eo, half _ t et))))))))))))))))))

  table_fits_lem : (k at : ℕ) (header : Header) → Finds (table_at k at header) s EventsFit
  unfolding table_at events_at every
  table_fits_lem k at header =
      finds-choose (eqb k EVNT)
      (λ _. finds_bind _ (anything s) (λ end _. finds-next 4 _ (λ x _. finds_bind _ (finds-many s _ _ event-fits _ _) (λ es q. finds-got (every_map (λ e. fields_fit e) event_words es q)))))
      (λ _. finds-choose (eqb k MAPS) (λ _. finds_bind _ (anything s) (λ ms _. finds-got refl))
      (λ _. finds-choose (eqb k TTBL) (λ _. finds_bind _ (anything s) (λ ts _. finds-got refl)) (λ _. finds_bind _ (anything s) (λ ds _. finds-got refl))))

-- so it is of all events of an accepted block
pub block-fits : (bytes : List ℕ) (c : Crim) → crim bytes ≡ done c → Each (λ b. b < 256) bytes
    → every (λ e. fields_fit e) (flat (λ o. map event_words (events_in o.table.rows)) (owned_tables 0 c.providers)) ≡ true
block-fits bytes c e b =
    let kept = each-kept EventsFit bytes c e (λ size sig at h _. table_fits_lem (take size bytes) (all-part (λ b. b < 256) size 0 bytes b) _ at h) in
    every-flat (λ e. fields_fit e) (λ (o : Owned). map event_words (events_in o.table.rows)) (owned_tables 0 c.providers)
    (each_owned_lem EventsFit (λ o. EventsFit o.table) 0 (length c.providers) (λ i t _ f. f) c.providers (omega arith) kept)
