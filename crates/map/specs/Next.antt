-- One map more: what it makes of the maps that are left, of the count of entries, and of the words of lists 7 and 8.
use Rattle.std.specs.Prelude.{ℕ, ◌+◌, ◌-◌, ◌*◌, ◌≤◌, ◌<◌, ◌≡◌, refl, List, ◌∷◌, ◌++◌, length, Ok, Err, Result}
use Rattle.std.proofs.Math.Path.{ap}
use Rattle.std.proofs.Common.{sym, ◌∙◌}
use Rattle.blob.specs.declared.Refusal.{Refusal}
use Rattle.blob.specs.Laid.{laid, flat}
use Rattle.blob.specs.Reading.{Outcome, done, run, many, verdict, values}
use Rattle.blob.proofs.Laws.{not_fine, many_more, many-stop, many-length, values-more, values-none, fill_more, length-flat}
use Rattle.format.specs.Area.{MAPS, ENTRIES, width}
use Rattle.format.specs.Definition.{step}
use Rattle.format.specs.Map.{Mapped, entry_at, map_read}
use Rattle.format.specs.Answer.{capped}
use Rattle.format.specs.Steps.Needs.{total, entry_count}
use Rattle.format.proofs.Theorems.Counting as counting
use Rattle.format.specs.Lists.{map_words, map_entry_words, map_list}
use Rattle.format.specs.declared.Map.{Map}
use Rattle.map.specs.Decides.{entries, entries-fine, Told, is_map, is_refused}
use Rattle.map.specs.Listed.{listed_at, listed-told}

-- what reading the maps that are left finds
abbrev pub unread : (e start first : ℕ) → List ℕ → (left place : ℕ) → Outcome (List Mapped)
unread e start first s left place = run (many (listed_at e start first) (step 4) left place) s

-- the words of some maps, where so many entries were stored before, and those of their entries
abbrev pub maps_words : ℕ → List Mapped → List ℕ
maps_words n ms = flat (λ e. e) (map_list n ms)

abbrev pub entries_words : List Mapped → List ℕ
entries_words ms = flat (λ m. flat map_entry_words m.entries) ms

-- what the code answers once so many entries were counted
abbrev pub counted_from : ℕ → Outcome (List Mapped) → Result ℕ Refusal
counted_from n o = counting.counted_from (λ m. length m.entries) n o

-- the words of a map come before those of others
one_map : (n : ℕ) (x : Map) (m : Mapped) → x ≡ m.map → length m.entries ≡ m.map.count → (ms : List Mapped)
    → maps_words n (m ∷ ms) ≡ map_words n x ++ maps_words (n + x.count) ms
unfolding flat map_list
one_map n x m p q ms = rw (p, q)

told-count : (s : List ℕ) (m : Mapped) → Told s m → length m.entries ≡ m.map.count
told-count s m t = ap length t.entries ∙ many-length entry_at (step 8) _ _ s (entries-fine _ _ s)

-- once no map is left, no entry is
pub count_none : (e start first : ℕ) (s : List ℕ) (left place : ℕ) → left ≤ 0 → entry_count (values (unread e start first s left place)) ≡ 0
unfolding total
count_none e start first s left place h = ap entry_count (values-none (listed_at e start first) (step 4) left place s h)

module _ (e start first : ℕ) (s : List ℕ) (left place : ℕ) (h : 0 < left) where
  pub never_refused : (r : Refusal) → Err r ≡ map_read (run (listed_at e start first place) s) → verdict (unread e start first s left place) ≡ Ok tt → ⊥
  never_refused r f v =
      not_fine r (sym (many-stop (listed_at e start first) (step 4) left place s r h (is_refused _ r f)) ∙ v)

  module _ (i : e ≤ length s) (x : Map) (f : Ok x ≡ map_read (run (listed_at e start first place) s)) where
    -- the map that was read
    abbrev m : Mapped
    m = (is_map (run (listed_at e start first place) s) x f).0

    found : run (listed_at e start first place) s ≡ done m
    found = (is_map (run (listed_at e start first place) s) x f).1

    same_map : x ≡ m.map
    same_map = (is_map (run (listed_at e start first place) s) x f).2

    told : Told s m
    told = listed-told e start first place s i m found

    -- its entries, as its fields tell them
    its_entries : m.entries ≡ values (run (entries x.count (x.offset + 16)) s)
    its_entries = told.entries ∙ ap (λ (y : Map). values (run (entries y.count (y.offset + 16)) s)) (sym same_map)

    its_count : length m.entries ≡ x.count
    its_count = told-count s m told ∙ ap (λ (y : Map). y.count) (sym same_map)

    pub next-inside : 8 * x.count ≤ length s - (x.offset + 16)
    next-inside = rw same_map told.inside

    pub next-counted : (n r : ℕ) → r ≡ capped (n + x.count)
        → counted_from n (unread e start first s left place) ≡ counted_from r (unread e start first s (left - 1) (place + 4))
    next-counted n r q =
        counting.counted-more (λ m. length m.entries) (listed_at e start first) (step 4) left place s m h found n r (q ∙ ap (λ k. capped (n + k)) (sym its_count))

    module _ (v : verdict (unread e start first s left place) ≡ Ok tt) where
      pub next-fine : verdict (unread e start first s (left - 1) (place + 4)) ≡ Ok tt
      next-fine = sym (many_more (listed_at e start first) (step 4) left place s m h found) ∙ v

      pub next-count : entry_count (values (unread e start first s left place)) ≡ x.count + entry_count (values (unread e start first s (left - 1) (place + 4)))
      unfolding total
      next-count = ap entry_count (values-more (listed_at e start first) (step 4) left place s m h found v) ∙ rw its_count

      pub next-maps : (n : ℕ) (area area' : List ℕ) (to : ℕ) → area' ≡ laid area to (map_words n x)
          → laid area to (maps_words n (values (unread e start first s left place)))
          ≡ laid area' (to + width MAPS) (maps_words (n + x.count) (values (unread e start first s (left - 1) (place + 4))))
      next-maps n area area' to q =
          fill_more (listed_at e start first) (step 4) (maps_words n) (maps_words (n + x.count)) (map_words n x) s area area' left place to m
          (one_map n x m same_map (told-count s m told)) q h found v

      pub next-entries : (area area' : List ℕ) (to : ℕ) → area' ≡ laid area to (flat map_entry_words (values (run (entries x.count (x.offset + 16)) s)))
          → laid area to (entries_words (values (unread e start first s left place)))
          ≡ laid area' (to + width ENTRIES * x.count) (entries_words (values (unread e start first s (left - 1) (place + 4))))
      unfolding flat
      next-entries area area' to q =
          fill_more (listed_at e start first) (step 4) entries_words entries_words (flat map_entry_words m.entries) s area area' left place to m
          (λ ms. refl) (q ∙ rw (← its_entries)) h found v
          ∙ rw (length-flat map_entry_words (width ENTRIES) (λ w. refl) m.entries, its_count)
