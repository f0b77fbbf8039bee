-- That what is marked is what was given: the templates that are found new are the definition's, each GUID once, whatever providers'
-- templates the events are resolved in.
use Prim.{tt}
use Prim.Native.Nat.{ℕ, zero, suc, ◌+◌, ◌*◌, ◌-◌, ◌≤◌, ◌<◌}
use Rattle.std.specs.Prelude.{Option, Some, None, ◌≡◌, Bool, not, ◌&&◌, length, get_or, take, drop, eqb}
use Rattle.std.proofs.Math.Path.{refl, ap, ap₂, sym}
use Rattle.std.proofs.Common.{◌∙◌, add-zero, zero-add, mul-zero}
use Rattle.std.proofs.Math.Bool.{true, false}
use mathlib.Core.List.{List, [], ◌∷◌, ◌++◌, map, map-append}
use native.Mathlib.Omega.{arith}
use Rattle.std.proofs.Math.ListN.{set, length-set, length-replicate, get_or-replicate}
use Rattle.std.proofs.Math.Seq.{get_or-set_same, get_or-set_other}
use Rattle.blob.specs.Reading.{choose}
use Rattle.blob.proofs.Asks.{inside_append}
use Rattle.blob.specs.Laid.{flat}
use Rattle.blob.specs.Places.{Each}
use Rattle.format.specs.Area.{TEMPLATES, width}
use Rattle.format.specs.Entry.{GUID, KEY, EVENT_TEMPLATE, TEMPLATE_OFFSET, TEMPLATE_GUID}
use Rattle.format.specs.Lists.{Entry}
use Rattle.format.specs.Lookup.{alike, among, once, word_of, select, guid_at_offset}
use Rattle.lists.specs.declared.Run.{Run}
use Rattle.lists.specs.Entries.{entries-length, entry, some_of}
use Rattle.lists.specs.Found.{entries, found, lowest}
use Rattle.lists.specs.Search.{told, position-found, position-single, select-found, select-none}
use Rattle.lookup.specs.Given.{Listed, Part, guid_of, number_of, mark_of, marked_from, marked, firsts, unset, number-single, number-below, guid-length}

-- a mark is set where the GUID stands, and no other one is touched
module _ (words guid : List ℕ) where
  marked-length : (i n at : ℕ) (marks : List Bool) → length (marked_from words guid i n at marks) ≡ length marks
  unfolding marked_from
  marked-length i zero at marks = refl
  marked-length i (suc n) at marks = marked-length (i + 1) n (at + width TEMPLATES) _ ∙ length-set marks i _

  marked-before : (i n at j : ℕ) (marks : List Bool) → j < i → get_or (marked_from words guid i n at marks) j false ≡ get_or marks j false
  unfolding marked_from
  marked-before i zero at j marks h = refl
  marked-before i (suc n) at j marks h = marked-before (i + 1) n (at + width TEMPLATES) j _ (omega arith) ∙ get_or-set_other marks i j _ false (λ e. omega arith)

  marked-at : (i n at k : ℕ) (marks : List Bool) → k < n → i + n ≤ length marks
      → get_or (marked_from words guid i n at marks) (i + k) false ≡ mark_of words guid (at + width TEMPLATES * k + TEMPLATE_GUID) (i + k) marks
  unfolding marked_from
  marked-at i zero at k marks h g = absurd (omega arith)
  marked-at i (suc n) at zero marks h g = simp (mul-zero, add-zero) (marked-before (i + 1) n (at + width TEMPLATES) i _ (omega arith) ∙ get_or-set_same marks i _ false (omega arith))
  marked-at i (suc n) at (suc k) marks h g =
      let p : i + suc k ≡ (i + 1) + k = omega arith in
      let q : at + width TEMPLATES * suc k + TEMPLATE_GUID ≡ (at + width TEMPLATES) + width TEMPLATES * k + TEMPLATE_GUID = omega arith in
      let marks' = set marks i (mark_of words guid (at + TEMPLATE_GUID) i marks) in
      rw (p, q)
      (marked-at (i + 1) n (at + width TEMPLATES) k marks' (omega arith) (omega (arith, length-set marks i (mark_of words guid (at + TEMPLATE_GUID) i marks)))
      ∙ ap (choose (alike (take (length guid) (drop ((at + width TEMPLATES) + width TEMPLATES * k + TEMPLATE_GUID) words)) guid) true) (get_or-set_other marks i ((i + 1) + k) _ false (λ e. omega arith)))

-- The invariant of the marks: a template of list 9 is marked exactly where its GUID was seen.
abbrev Marks : List ℕ → Run → List Bool → List Entry → Type 0
Marks words list marks seen = (list.count ≤ length marks) × ((n : ℕ) → n < list.count → get_or marks n false ≡ among (guid_of words list n) seen)

module _ (words : List ℕ) (list : Run) (f : Listed list words) where
  -- with a GUID given, the marks are of one more
  marked-seen : (marks : List Bool) (seen : List Entry) (n : ℕ) → Marks words list marks seen → n < list.count → Marks words list (marked words list (guid_of words list n) marks) (guid_of words list n ∷ seen)
  unfolding among
  marked-seen marks seen n m h =
      let g = guid_of words list n in (
        omega (arith, marked-length words g 0 list.count list.start marks),
        λ k l.
            (rw (zero-add k, guid-length words list n f h) at (marked-at words g 0 list.count list.start k marks l (omega arith)))
            ∙ ap (choose (alike (guid_of words list k) g) true) (m.1 k l),
      )

  -- of templates of list 9, what is new is what the definition gives
  firsts_once : (marks : List Bool) (seen : List Entry) (ns : List ℕ) → Marks words list marks seen → Each (λ n. n < list.count) ns
      → map (guid_of words list) (firsts words list marks ns) ≡ once seen (map (guid_of words list) ns)
  unfolding firsts once
  firsts_once marks seen [] m b = refl
  firsts_once marks seen (n ∷ ns) m b =
      rw (← m.1 n b.0)
      (go (get_or marks n false) (firsts_once marks seen ns m b.1)
      (firsts_once (marked words list (guid_of words list n) marks) (guid_of words list n ∷ seen) ns (marked-seen marks seen n m b.0) b.1))
    where
      go : (t : Bool) → map (guid_of words list) (firsts words list marks ns) ≡ once seen (map (guid_of words list) ns)
          → map (guid_of words list) (firsts words list (marked words list (guid_of words list n) marks) ns) ≡ once (guid_of words list n ∷ seen) (map (guid_of words list) ns)
          → map (guid_of words list) (choose t (firsts words list marks ns) (n ∷ firsts words list (marked words list (guid_of words list n) marks) ns))
          ≡ choose t (once seen (map (guid_of words list) ns)) (guid_of words list n ∷ once (guid_of words list n ∷ seen) (map (guid_of words list) ns))
      go true a b = a
      go false a b = ap (λ (gs : List Entry). guid_of words list n ∷ gs) b

  pub given-once : (ns : List ℕ) → Each (λ n. n < list.count) ns → map (guid_of words list) (firsts words list unset ns) ≡ once [] (map (guid_of words list) ns)
  unfolding among
  given-once ns b =
      firsts_once unset [] ns (omega (arith, f, length-replicate 65536 false), λ n h. get_or-replicate 65536 n false false (omega (arith, f))) b

below-told : (m : ℕ) (x : Option ℕ) → ((n : ℕ) → x ≡ Some n → n < m) → Each (λ n. n < m) (told x)
below-told m None s = tt
below-told m (Some n) s = (s n refl, tt)

module _ (words : List ℕ) (list templates : Run) (f : Part list templates words) where
  -- the GUID at an offset is that of the lowest template there
  guid-lowest : (offset : ℕ) → guid_at_offset (entries (width TEMPLATES) templates words) offset ≡ map (guid_of words list) (lowest words templates offset)
  guid-lowest offset =
      go (found (lowest words templates offset)) refl ∙ ap (map (guid_of words list)) (sym (position-single p templates.first (entries (width TEMPLATES) templates words)))
    where
      p : Entry → Bool
      p t = eqb (word_of TEMPLATE_OFFSET t) offset

      go : (x : Option ℕ) → found (lowest words templates offset) ≡ x → guid_at_offset (entries (width TEMPLATES) templates words) offset ≡ map (guid_of words list) (told x)
      go None e =
          ap (λ (l : List Entry). map (λ t. take GUID (drop TEMPLATE_GUID t)) (take 1 l)) (select-none p templates.first (entries (width TEMPLATES) templates words) e)
      go (Some n) e =
          let at = templates.start + width TEMPLATES * templates.first in
          let h = position-found p templates.first (entries (width TEMPLATES) templates words) n e in
          let l : n - templates.first < templates.count = omega (arith, h.1, h.2, entries-length (width TEMPLATES) words templates.count at) in
          let m : (at + width TEMPLATES * (n - templates.first)) + TEMPLATE_GUID ≡ list.start + width TEMPLATES * n + TEMPLATE_GUID = omega (arith, f, h.1) in
          ap (map (λ t. take GUID (drop TEMPLATE_GUID t))) (select-found p templates.first (entries (width TEMPLATES) templates words) n e)
          ∙ ap (λ (t : Entry). take GUID (drop TEMPLATE_GUID t) ∷ []) (entry (width TEMPLATES) words (n - templates.first) templates.count at l)
          ∙ ap (λ (g : Entry). g ∷ []) (some_of (width TEMPLATES) words GUID TEMPLATE_GUID (at + width TEMPLATES * (n - templates.first)) (omega arith) ∙ ap (λ q. take GUID (drop q words)) m)

  module _ (key : List ℕ) where
    abbrev picks : Entry → Bool
    picks e = alike (take KEY e) key && not (eqb (word_of EVENT_TEMPLATE e) 0)

    abbrev gives : Entry → List Entry
    gives e = guid_at_offset (entries (width TEMPLATES) templates words) (word_of EVENT_TEMPLATE e)

    -- the GUIDs of the events that a key picks are those of the templates that they give
    pub keyed-guids : (es : List Entry) → flat gives (select picks es) ≡ map (guid_of words list) (flat (number_of words templates key) es)
    unfolding select flat
    keyed-guids [] = refl
    keyed-guids (e ∷ es) = go (picks e) (keyed-guids es)
      where
        go : (t : Bool) → flat gives (select picks es) ≡ map (guid_of words list) (flat (number_of words templates key) es)
            → flat gives (choose t (e ∷ select picks es) (select picks es))
            ≡ map (guid_of words list) (choose t (lowest words templates (word_of EVENT_TEMPLATE e)) [] ++ flat (number_of words templates key) es)
        go true ih =
            ap₂ (λ (a b : List Entry). a ++ b) (guid-lowest (word_of EVENT_TEMPLATE e)) ih
            ∙ sym (map-append (guid_of words list) (lowest words templates (word_of EVENT_TEMPLATE e)) (flat (number_of words templates key) es))
        go false ih = ih

    -- each of them is in list 9
    pub numbers_below : (es : List Entry) → Each (λ n. n < list.count) (flat (number_of words templates key) es)
    unfolding flat
    numbers_below [] = tt
    numbers_below (e ∷ es) =
        inside_append list.count (number_of words templates key e) (flat (number_of words templates key) es)
        (rw (number-single words templates key e) (below-told list.count (found (number_of words templates key e)) (λ n h. omega (arith, f, number-below words templates key e n h))))
        (numbers_below es)
