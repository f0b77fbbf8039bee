-- An accepted reading asks for the bytes of Rests and for no other (`rests`, at the end), and whatever comes of a reading, each byte that
-- it asks for lies in the blob (`asks_inside`): both from one theorem for each structure.
use Prim.{Unit, tt}
use Prim.Native.Nat.{ℕ, zero, suc, ◌+◌, ◌-◌, ◌*◌, ◌/◌, ◌≤◌, ◌<◌}
use Rattle.std.specs.Prelude.{◌≡◌, Bool, take, leb, eqb}
use Rattle.std.proofs.Math.Path.{refl, ap, sym}
use Rattle.std.proofs.Common.{◌∙◌, subst, mul-suc, length-take-le}
use Rattle.std.proofs.Math.Bool.{true, false}
use mathlib.Core.List.{List, [], ◌∷◌, ◌++◌, append-nil}
use native.Mathlib.Omega.{arith}
use Rattle.std.proofs.Math.ListN.{length}
use borrow.Author.Tests.{leb-true, eqb-true}
use Rattle.blob.specs.Le.{le}
use Rattle.blob.specs.Places.{Each, span, rows}
use Rattle.blob.specs.Reading.{Fault, Reading, got, done, choose, run, places, ◌>>=◌, number, many}
use Rattle.blob.proofs.Laws.{then-done, same}
use Rattle.blob.proofs.Asks.{Asks, asks_got, asks_stop, asks_room, asks_choose, asks_demand, asks_bind, asks_so, asks_fixed, asks_number, asks_next, asks_many, asks_each, asked-append, asked-behind, asked-last, span-append, span-join, inside_span, inside_append}
use Rattle.format.specs.Name.{text, sized, name_at, absent, high}
use Rattle.format.specs.Region.{Region, blob_end, until, inside, bounded, region_at}
use Rattle.format.specs.Table.{CHAN, EVNT, KEYW, LEVL, MAPS, OPCO, TASK, TTBL, signature, kinds, kind_in, header_length, stride, header_at, table_end}
use Rattle.format.specs.Definition.{guid_at, channel_fields, keyword_fields, task_fields, plain_fields, fields_at, definition_at, definitions_at, step}
use Rattle.format.specs.Event.{event_at}
use Rattle.format.specs.Item.{item_name_at, item_at, items_start, items_from}
use Rattle.format.specs.Template.{items_at, template_at, templates_at, next}
use Rattle.format.specs.Map.{VMAP, BMAP, entry_at, value_map_at, other_map, map_at, maps_at}
use Rattle.format.specs.Provider.{Table, definitions, plain, element_of, events_at, table_at, unknown_at, element_at, descriptor_at, wevt_at, provider_at}
use Rattle.format.specs.declared.CrimHeader.{CrimHeader}
use Rattle.format.specs.Crim.{CRIM, Crim, header, described_at, providers_of, crim}
use Rattle.format.specs.Rests.{name_bytes, definition_bytes, item_bytes, template_bytes, map_bytes, maps_bytes, table_bytes, element_bytes, descriptor_bytes, provider_bytes, providers_bytes, rests_on}
use Rattle.format.specs.declared.Header.{Header}
use Rattle.format.specs.declared.Name.{Name}
use Rattle.format.specs.declared.Guid.{Guid}
use Rattle.format.specs.declared.Descriptor.{Descriptor}
use Rattle.format.specs.declared.MapEntry.{MapEntry}
use Rattle.format.specs.declared.Items.{Items}
use Rattle.format.specs.declared.Items.TheVariants as items

-- what holds of each of some kinds, and of none, holds of the kind that a signature names
pub kind-cases : (P : ℕ → Type 0) (ks : List ℕ) (sig : ℕ) → P 0 → Each P ks → P (kind_in ks sig)
unfolding kind_in
kind-cases P [] sig none h = none
kind-cases P (k ∷ ks) sig none h = go (eqb sig (signature k)) (kind-cases P ks sig none h.1)
  where
    go : (t : Bool) → P (kind_in ks sig) → P (choose t k (kind_in ks sig))
    go true ih = h.0
    go false ih = ih

-- nothing was asked for where a span has no places
none : (at w : ℕ) → w ≡ 0 → [] ≡ span at w
unfolding span
none at w h = rw h

module _ (s : List ℕ) where
  -- how a text goes on from a place: so many units more, and the zero unit that ended it
  abbrev unit_bytes : ℕ → ℕ → Name → List ℕ
  unit_bytes at k n = span at (2 * (n.units - k) + choose n.ended 2 0)

  -- from `at` on, with k units read before
  text-asks : (f o left at k : ℕ) (waits : Bool) → at + 2 * left ≤ length s
      → Asks (text f o left at k waits) s (λ n ps. (k ≤ n.units) × (ps ≡ unit_bytes at k n))
  unfolding text
  text-asks f o zero at k waits h = asks_demand _ _ (λ e. asks_got (omega arith, none at _ (omega arith)))
  text-asks f o (suc left) at k waits h =
      asks_next 2 at (omega arith) (λ u e. asks_choose waits (λ w. asks_demand _ _ (λ l. more (text-asks f o left (at + 2) (k + 1) false (omega arith))))
      (λ w. asks_choose (eqb u 0) (λ z. asks_got (omega arith, asked-last (ap (span at) (omega arith))))
      (λ z. asks_demand _ _ (λ l. more (text-asks f o left (at + 2) (k + 1) (high u) (omega arith))))))
    where
      longer : (n : Name) (qs : List ℕ) → (k + 1 ≤ n.units) × (qs ≡ unit_bytes (at + 2) (k + 1) n) → (k ≤ n.units) × (span at 2 ++ qs ≡ unit_bytes at k n)
      longer n qs g =
          let e : 2 + (2 * (n.units - (k + 1)) + choose n.ended 2 0) ≡ 2 * (n.units - k) + choose n.ended 2 0 = omega (arith, g.0) in
          (omega (arith, g.0), asked-behind (span at 2) g.1 ∙ span-append at 2 _ ∙ ap (span at) e)

      more : {r : Reading Name} → Asks r s (λ n qs. (k + 1 ≤ n.units) × (qs ≡ unit_bytes (at + 2) (k + 1) n))
          → Asks r s (λ n qs. (k ≤ n.units) × (span at 2 ++ qs ≡ unit_bytes at k n))
      more ih = asks_so ih longer

  -- a region that ends at a place ends within the blob
  abbrev Ends : Region → Type 0
  Ends blob_end = Unit {0}
  Ends (until e) = e ≤ length s

  asks_in : {A : Type 0} {P : A → List ℕ → Type 0} (r : Region) (p : ℕ) (x : Fault) {k : Reading A} → Ends r → (p ≤ length s → Asks k s P) → Asks (inside r p x k) s P
  unfolding inside
  asks_in blob_end p x h g = asks_room g
  asks_in (until e) p x h g = asks_demand (leb p e) _ (λ t. g (omega (arith, leb-true p e t)))

  name-asks : (r : Region) (f o : ℕ) → Ends r → Asks (name_at r f o) s (λ n ps. ps ≡ name_bytes o n)
  unfolding name_at sized name_bytes
  name-asks r f o h =
      asks_choose (eqb o 0) (λ e. asks_got (rw e refl)) (λ e.
      asks_in r _ _ h (λ a. asks_in r _ _ h (λ b. asks_next 4 o (omega arith) (λ size es. asks_demand _ _ (λ d. asks_in r _ _ h (λ w. asks_demand _ _ (λ v.
      let four : 4 ≤ size = leb-true 4 size d in
      asks_so (text-asks f o ((size - 4) / 2) (o + 4) 0 false (omega arith)) (λ n qs g.
      rw e (asked-behind (span o 4) (g.1 ∙ ap (span (o + 4)) (omega arith)))))))))))

  guid-asks : (at : ℕ) → at + 16 ≤ length s → Asks (guid_at at) s (λ g ps. (span at 16 ≡ ps) × Unit {0})
  unfolding guid_at
  guid-asks at h =
      asks_next 4 at (omega arith) (λ a ea. asks_next 4 (at + 4) (omega arith) (λ b eb. asks_next 4 (at + 8) (omega arith) (λ c ec. asks_next 4 (at + 12) (omega arith) (λ d ed.
      asks_got (simp (span-join, span-append, append-nil), tt)))))

  -- the fields are those of a record of the kind's length
  channel_asks : (at : ℕ) → at + 16 ≤ length s → Asks (channel_fields at) s (λ d ps. (span at 16 ≡ ps) × Unit {0})
  unfolding channel_fields
  channel_asks at h =
      asks_next 4 at (omega arith) (λ _ _. asks_next 4 (at + 4) (omega arith) (λ _ _. asks_next 4 (at + 8) (omega arith) (λ _ _. asks_next 4 (at + 12) (omega arith) (λ _ _. asks_got (simp (span-join, span-append, append-nil), tt)))))

  keyword_asks : (at : ℕ) → at + 16 ≤ length s → Asks (keyword_fields at) s (λ d ps. (span at 16 ≡ ps) × Unit {0})
  unfolding keyword_fields
  keyword_asks at h =
      asks_next 4 at (omega arith) (λ _ _. asks_next 4 (at + 4) (omega arith) (λ _ _. asks_next 4 (at + 8) (omega arith) (λ _ _. asks_next 4 (at + 12) (omega arith) (λ _ _. asks_got (simp (span-join, span-append, append-nil), tt)))))

  task_asks : (at : ℕ) → at + 28 ≤ length s → Asks (task_fields at) s (λ d ps. (span at 28 ≡ ps) × Unit {0})
  unfolding task_fields
  task_asks at h =
      asks_next 4 at (omega arith) (λ _ _. asks_next 4 (at + 4) (omega arith) (λ _ _. asks_fixed _ _ (guid-asks (at + 8) (omega arith)) (λ _ _. asks_next 4 (at + 24) (omega arith) (λ _ _. asks_got (simp (span-join, span-append, append-nil), tt)))))

  plain-asks : (k at : ℕ) → at + 12 ≤ length s → Asks (plain_fields k at) s (λ d ps. (span at 12 ≡ ps) × Unit {0})
  unfolding plain_fields
  plain-asks k at h =
      asks_next 4 at (omega arith) (λ _ _. asks_next 4 (at + 4) (omega arith) (λ _ _. asks_next 4 (at + 8) (omega arith) (λ _ _. asks_got (simp (span-join, span-append, append-nil), tt))))

  -- a record of a kind whose fields are as `fields` says, and its name
  definition_asks : (k at : ℕ) → Asks (fields_at k at) s (λ d ps. (span at (stride k) ≡ ps) × Unit {0})
      → Asks (definition_at k at) s (λ d ps. ps ≡ definition_bytes k at d)
  unfolding definition_at
  definition_asks k at fields =
      asks_fixed _ _ fields (λ d _. asks_bind _ (name-asks blob_end _ d.offset tt) (λ n ps g. asks_got (asked-behind (span at (stride k)) (asked-last g))))

  event-asks : (at : ℕ) → at + 48 ≤ length s → Asks (event_at at) s (λ e ps. ps ≡ span at 48)
  unfolding event_at
  event-asks at h =
      asks_next 2 at (omega arith) (λ _ _. asks_next 1 (at + 2) (omega arith) (λ _ _. asks_next 1 (at + 3) (omega arith) (λ _ _. asks_next 1 (at + 4) (omega arith) (λ _ _.
      asks_next 1 (at + 5) (omega arith) (λ _ _. asks_next 2 (at + 6) (omega arith) (λ _ _. asks_next 4 (at + 8) (omega arith) (λ _ _. asks_next 4 (at + 12) (omega arith) (λ _ _.
      asks_next 4 (at + 16) (omega arith) (λ _ _. asks_next 4 (at + 20) (omega arith) (λ _ _. asks_next 4 (at + 24) (omega arith) (λ _ _. asks_next 4 (at + 28) (omega arith) (λ _ _.
      asks_next 4 (at + 32) (omega arith) (λ _ _. asks_next 4 (at + 36) (omega arith) (λ _ _. asks_next 4 (at + 40) (omega arith) (λ _ _. asks_next 4 (at + 44) (omega arith) (λ _ _.
      asks_got (simp (span-join, span-append, append-nil))))))))))))))))))

  header-asks : (k at : ℕ) → 12 ≤ header_length k → Asks (header_at k at) s (λ h ps. (span at 12 ≡ ps) × (at + header_length k ≤ length s))
  unfolding header_at
  header-asks k at l =
      asks_room (λ a. asks_room (λ b. asks_next 4 at (omega arith) (λ f ef. asks_demand _ _ (λ d. asks_next 4 (at + 4) (omega arith) (λ z ez. asks_next 4 (at + 8) (omega arith) (λ c ec.
      asks_got (simp (span-join, span-append, append-nil), b)))))))

  bounded-asks : (f at size least : ℕ) → Asks (bounded f at size least) s (λ e ps. ([] ≡ ps) × (e ≤ length s))
  unfolding bounded
  bounded-asks f at size least = asks_demand _ _ (λ d. asks_room (λ h. asks_got (refl, h)))

  region-asks : (f at size least : ℕ) → Asks (region_at f at size least) s (λ r ps. ([] ≡ ps) × Ends r)
  unfolding region_at
  region-asks f at size least =
      asks_choose (eqb size 0) (λ e. asks_got (refl, tt)) (λ e. asks_fixed [] _ (bounded-asks f at size least) (λ e h. asks_got (refl, h)))

  pub end-asks : (k at : ℕ) (h : Header) → Asks (table_end k at h) s (λ e ps. ([] ≡ ps) × (at + header_length k + stride k * h.count ≤ length s))
  unfolding table_end
  end-asks k at h =
      asks_choose (eqb h.size 0) (λ e. asks_room (λ w. asks_got (refl, w)))
      (λ e. asks_fixed [] _ (bounded-asks _ at h.size _) (λ x b. asks_demand _ _ (λ t. asks_got (refl, omega (arith, leb-true (at + header_length k + stride k * h.count) x t)))))

  items-asks : (size : ℕ) (i : Items) → Asks (items_at size i) s (λ t ps. ([] ≡ ps) × Unit {0})
  unfolding items_at
  items-asks size (items.At t) = asks_got (refl, tt)
  items-asks size (items.Before b) = asks_stop
  items-asks size (items.Past t) = asks_stop

  -- records of one length in a row, which fit the blob together
  asks_rows : {A : Type 0} {p : ℕ → Reading A} (w : ℕ) (q : ℕ → A → List ℕ) → ((at : ℕ) → at + w ≤ length s → Asks (p at) s (λ a ps. ps ≡ q at a))
      → (n at : ℕ) → at + w * n ≤ length s → Asks (many p (step w) n at) s (λ vs ps. ps ≡ (rows q (step w) at vs) × (length vs ≡ n))
  asks_rows w q one =
      asks_many (λ n at. at + w * n ≤ length s) q (λ n at i.
      let j : at + (w * n + w) ≤ length s = rw mul-suc at i in asks_so (one at (omega arith)) (λ a ps g. (g, omega arith)))

  item_asks : (temp e at : ℕ) → e ≤ length s → at + 20 ≤ length s → Asks (item_at temp e at) s (λ i ps. ps ≡ item_bytes at i)
  unfolding item_at item_name_at
  item_asks temp e at h w =
      asks_next 4 at (omega arith) (λ _ _. asks_next 1 (at + 4) (omega arith) (λ _ _. asks_next 1 (at + 5) (omega arith) (λ _ _. asks_next 2 (at + 6) (omega arith) (λ _ _.
      asks_next 4 (at + 8) (omega arith) (λ _ _. asks_next 2 (at + 12) (omega arith) (λ _ _. asks_next 2 (at + 14) (omega arith) (λ _ _. asks_next 4 (at + 16) (omega arith) (λ o _.
      asks_bind _ (asks_demand _ _ (λ _. name-asks (until e) _ o h)) (λ n ps g.
      asks_got (simp (span-join, append-nil) (asked-behind (span at 20) g)))))))))))

  item_list_asks : (temp e n offset : ℕ) → e ≤ length s → Asks (items_from temp e n offset) s (λ is ps. ps ≡ (rows item_bytes (step 20) (items_start e offset) is))
  unfolding items_from
  item_list_asks temp e n offset h =
      asks_in (until e) _ _ h (λ w. asks_so (asks_rows 20 item_bytes (λ at v. item_asks temp e at h v) n (items_start e offset) w) (λ is ps g. g.0))

  template_asks : (r : Region) (at : ℕ) → Ends r → Asks (template_at r at) s (λ t ps. ps ≡ template_bytes at t)
  unfolding template_at template_bytes
  template_asks r at h =
      asks_in r _ _ h (λ w. asks_next 4 at (omega arith) (λ f ef. asks_demand _ _ (λ d. asks_next 4 (at + 4) (omega arith) (λ z ez. asks_demand _ _ (λ l.
      asks_in r _ _ h (λ e. asks_next 4 (at + 8) (omega arith) (λ _ _. asks_next 4 (at + 12) (omega arith) (λ _ _. asks_next 4 (at + 16) (omega arith) (λ o eo. asks_next 4 (at + 20) (omega arith) (λ _ _.
      asks_fixed _ _ (guid-asks (at + 24) (omega arith)) (λ g eg. asks_demand _ _ (λ c. asks_fixed [] _ (items-asks _ _) (λ t et.
      asks_bind _ (item_list_asks at (at + z) _ o e) (λ is ps k. asks_got (simp (span-join, append-nil) (asked-behind (span at 40) k))))))))))))))))

  templates-asks : (at : ℕ) (h : Header) → Asks (templates_at at h) s (λ ts ps. ps ≡ (rows template_bytes next (at + 12) ts))
  unfolding templates_at
  templates-asks at h =
      asks_fixed [] _ (region-asks _ at h.size _) (λ r e.
      asks_so (asks_many (λ n p. Unit {0}) template_bytes (λ n p u. asks_so (template_asks r p e) (λ t ps g. (g, tt))) h.count (at + 12) tt) (λ ts ps g. g.0))

  entry-asks : (at : ℕ) → at + 8 ≤ length s → Asks (entry_at at) s (λ e ps. ps ≡ span at 8)
  unfolding entry_at
  entry-asks at h = asks_next 4 at (omega arith) (λ i ei. asks_next 4 (at + 4) (omega arith) (λ m em. asks_got (simp (span-append, append-nil))))

  -- its signature's bytes come before
  value-map_asks : (r : Region) (at : ℕ) → Ends r → Asks (value_map_at r at) s (λ m ps. span at 4 ++ ps ≡ map_bytes m)
  unfolding value_map_at map_bytes
  value-map_asks r at h =
      asks_room (λ a. asks_next 4 (at + 4) (omega arith) (λ z ez. asks_demand _ _ (λ l. asks_in r _ _ h (λ b. asks_in r _ _ h (λ w.
      asks_next 4 (at + 8) (omega arith) (λ o eo. asks_next 4 (at + 12) (omega arith) (λ n en. asks_demand _ _ (λ t.
      asks_bind _ (asks_rows 8 (λ p e. span p 8) entry-asks n (at + 16) (omega (arith, leb-true (16 + 8 * n) z t))) (λ es ps g.
      asks_bind _ (name-asks blob_end _ o tt) (λ m qs k.
      asks_got (simp (span-join, append-nil) (asked-behind (span at 16) (asked-append g.0 k)))))))))))))

  other_map_asks : (r : Region) (at sig : ℕ) → span at 4 ≡ map_bytes (other_map r at sig)
  unfolding map_bytes
  other_map_asks r at sig = go (eqb sig BMAP)
    where
      go : (t : Bool) → span at 4 ≡ choose (eqb (choose t 2 3) 1) (span at 16 ++ (rows {A = MapEntry} (λ p e. span p 8) (step 8) (at + 16) [] ++ name_bytes 0 absent)) (span at 4)
      go true = refl
      go false = refl

  map-asks : (r : Region) (at : ℕ) → Ends r → Asks (map_at r at) s (λ m ps. ps ≡ map_bytes m)
  unfolding map_at
  map-asks r at h =
      asks_room (λ a. asks_room (λ b. asks_next 4 at (omega arith) (λ sig e. asks_choose (eqb sig VMAP) (λ v. value-map_asks r at h)
      (λ v. asks_got (asked-last (other_map_asks r at sig))))))

  maps-asks : (at : ℕ) (h : Header) → Asks (maps_at at h) s (λ ms ps. ps ≡ maps_bytes at ms)
  unfolding maps_at maps_bytes
  maps-asks at h =
      asks_fixed [] _ (region-asks _ at h.size _) (λ r e. asks_choose (eqb h.count 0) (λ z. asks_got refl) (λ z. asks_room (λ b.
      asks_bind _ (map-asks r _ e) (λ m ps g.
      asks_bind _ (asks_rows 4 (λ p n. span p 4 ++ map_bytes n) (λ p k. asks_next 4 p (omega arith) (λ o eo. asks_so (map-asks r o e) (λ m ps g. asked-behind (span p 4) g))) (h.count - 1) (at + 16) b)
      (λ ms qs k. asks_got (asked-append g (asked-last k.0)))))))

  -- a table's bytes begin with its header's
  abbrev TableAsks : ℕ → Reading Table → Type 0
  TableAsks at r = Asks r s (λ t ps. span at 12 ++ ps ≡ table_bytes t.kind t.offset t.rows)

  events-asks : (at : ℕ) (h : Header) → at + 16 ≤ length s → TableAsks at (events_at at h)
  unfolding events_at table_bytes
  events-asks at h w =
      asks_fixed [] _ (end-asks EVNT at h) (λ e f. asks_next 4 (at + 12) (omega arith) (λ x ex.
      asks_bind _ (asks_rows 48 (λ p e. span p 48) event-asks h.count (at + 16) f) (λ es ps g.
      asks_got (simp (span-join, append-nil) (asked-behind (span at 16) g.0)))))

  unknown-asks : (at : ℕ) → Asks (unknown_at at) s (λ e ps. ps ≡ element_bytes e)
  unfolding unknown_at element_bytes
  unknown-asks at =
      asks_room (λ a. asks_room (λ b. asks_next 4 at (omega arith) (λ sig e. asks_next 4 (at + 4) (omega arith) (λ z ez. asks_room (λ w.
      asks_got (simp (span-append, append-nil)))))))

  -- a table of definitions, of a kind whose records' fields are as `one` says
  definitions-asks : (k at : ℕ) (h : Header) → header_length k ≡ 12 → at + header_length k ≤ length s
      → ((p : ℕ) → p + stride k ≤ length s → Asks (fields_at k p) s (λ d ps. (span p (stride k) ≡ ps) × Unit {0}))
      → TableAsks at (definitions_at k at h >>= λ ds. got (plain k at h (definitions ds)))
  unfolding definitions_at table_bytes
  definitions-asks k at h l w one =
      let w12 : at + 12 ≤ length s = rw l at w in
      asks_bind (λ ds ps. ps ≡ (rows (definition_bytes k) (step (stride k)) (at + 12) ds) × (length ds ≡ h.count)) (asks_fixed [] _ (end-asks k at h) (λ e f.
      let f12 : at + 12 + stride k * h.count ≤ length s = rw l at f in
      rw l (asks_rows (stride k) (definition_bytes k) (λ p i. definition_asks k p (one p i)) h.count (at + 12) f12))) (λ ds ps g.
      asks_got (asked-behind (span at 12) (asked-last g.0)))

  -- a kind's element, from what its table asks for behind the header
  of_kind : (k at : ℕ) → eqb k 0 ≡ false → 12 ≤ header_length k → ((h : Header) → at + header_length k ≤ length s → TableAsks at (table_at k at h))
      → Asks (element_of k at) s (λ e ps. ps ≡ element_bytes e)
  unfolding element_of element_bytes
  of_kind k at z l one =
      rw z (asks_fixed _ _ (header-asks k at l) (λ h w. asks_bind _ (one h w) (λ t ps g. asks_got (rw append-nil g))))

  element_asks : (d : Descriptor) → Asks (element_at d) s (λ e ps. ps ≡ element_bytes e)
  unfolding element_at element_of table_at fields_at table_bytes
  element_asks d =
      kind-cases (λ k. Asks (element_of k d.offset) s (λ e ps. ps ≡ element_bytes e)) kinds d.signature
      (unknown-asks at) (
        of_kind CHAN at refl (omega arith) (λ h w. definitions-asks CHAN at h refl w channel_asks),
        (
          of_kind EVNT at refl (omega arith) (events-asks at),
          (
            of_kind KEYW at refl (omega arith) (λ h w. definitions-asks KEYW at h refl w keyword_asks),
            (
              of_kind LEVL at refl (omega arith) (λ h w. definitions-asks LEVL at h refl w (plain-asks LEVL)),
              (
                of_kind MAPS at refl (omega arith) (λ h w. asks_bind _ (maps-asks at h) (λ ms ps g. asks_got (asked-behind (span at 12) (asked-last g)))),
                (
                  of_kind OPCO at refl (omega arith) (λ h w. definitions-asks OPCO at h refl w (plain-asks OPCO)),
                  (
                    of_kind TASK at refl (omega arith) (λ h w. definitions-asks TASK at h refl w task_asks),
                    (
                      of_kind TTBL at refl (omega arith) (λ h w. asks_bind _ (templates-asks at h) (λ ts ps g. asks_got (asked-behind (span at 12) (asked-last g)))),
                      tt,
                    ),
                  ),
                ),
              ),
            ),
          ),
        ),
      )
    where
      at : ℕ
      at = d.offset

  descriptor_asks : (at : ℕ) → at + 8 ≤ length s → Asks (descriptor_at at) s (λ d ps. ps ≡ descriptor_bytes at d)
  unfolding descriptor_at
  descriptor_asks at h =
      asks_next 4 at (omega arith) (λ o eo. asks_next 4 (at + 4) (omega arith) (λ u eu. asks_room (λ a. asks_room (λ b. asks_next 4 o (omega arith) (λ sig e.
      asks_got (simp (span-join, append-nil)))))))

  word_asks : (at : ℕ) → at + 4 ≤ length s → Asks (number 4 at) s (λ w ps. ps ≡ span at 4)
  word_asks at h = asks_so (asks_number 4 at h) (λ w ps e. sym e.0)

  wevt_asks : (at : ℕ) → Asks (wevt_at at) s (λ w ps. (span at 20 ≡ ps) × (at + 20 ≤ length s))
  unfolding wevt_at
  wevt_asks at =
      asks_room (λ a. asks_room (λ b. asks_next 4 at (omega arith) (λ f ef. asks_demand _ _ (λ w.
      asks_next 4 (at + 4) (omega arith) (λ _ _. asks_next 4 (at + 8) (omega arith) (λ _ _. asks_next 4 (at + 12) (omega arith) (λ _ _. asks_next 4 (at + 16) (omega arith) (λ _ _.
      asks_got (simp (span-join, span-append, append-nil), b)))))))))

  provider-asks : (g : Guid) (at : ℕ) → Asks (provider_at g at) s (λ p ps. ps ≡ provider_bytes p)
  unfolding provider_at provider_bytes
  provider-asks g at =
      asks_fixed _ _ (wevt_asks at) (λ w b.
      asks_room (λ c. asks_bind _ (asks_rows 8 descriptor_bytes descriptor_asks w.descriptors (at + 20) c) (λ ds ps gd.
      asks_room (λ e. asks_bind _ (asks_rows 4 (λ p w. span p 4) word_asks w.unknown2 (at + 20 + 8 * w.descriptors) e) (λ us qs gu.
      asks_bind _ (asks_each element_bytes element_asks ds) (λ es rs ge.
      asks_got (simp append-nil (rw gd.1 (asked-behind (span at 20) (asked-append gd.0 (asked-append gu.0 ge)))))))))))

  described-asks : (at : ℕ) → at + 20 ≤ length s → Asks (described_at at) s (λ p ps. ps ≡ span at 20 ++ provider_bytes p)
  unfolding described_at
  described-asks at h =
      asks_fixed _ _ (guid-asks at (omega arith)) (λ g eg. asks_next 4 (at + 16) (omega arith) (λ o eo. asks_so (provider-asks g o) (λ p ps a.
      simp (span-join) (asked-behind (span at 20) a))))

  -- all that is read of the providers
  pub providers-asked : (h : CrimHeader) → Asks (providers_of h) s (λ ps qs. qs ≡ providers_bytes ps)
  unfolding providers_of
  providers-asked h = asks_room (λ a. asks_so (asks_rows 20 (λ at p. span at 20 ++ provider_bytes p) described-asks h.count 16 a) (λ ps qs g. g.0))

-- what the header's words are, and the bytes asked for
pub record Headed (s : List ℕ) (h : CrimHeader) (ps : List ℕ) : Type 0 where
  pub asked : ps ≡ span 0 16
  pub signature : le 4 s 0 ≡ CRIM
  pub size : h.size ≡ le 4 s 4
  pub major : h.major ≡ le 2 s 8
  pub minor : h.minor ≡ le 2 s 10
  pub count : h.count ≡ le 4 s 12
  pub least : 16 ≤ h.size
  pub fits : h.size ≤ length s

pub crim-header_asks : (s : List ℕ) → Asks header s (Headed s)
unfolding header
crim-header_asks s =
    asks_room (λ a. asks_next 4 0 (omega arith) (λ f ef. asks_demand _ _ (λ d. asks_room (λ b. asks_next 4 4 (omega arith) (λ z ez. asks_room (λ e. asks_next 2 8 (omega arith) (λ j ej.
    asks_room (λ g. asks_next 2 10 (omega arith) (λ i ei. asks_room (λ k. asks_next 4 12 (omega arith) (λ n en. asks_demand _ _ (λ l. asks_room (λ w. asks_got (
    record {
      asked = unfold span in refl;
      signature = sym ef ∙ eqb-true f CRIM d;
      size = ez;
      major = ej;
      minor = ei;
      count = en;
      least = leb-true 16 z l;
      fits = w;
    }))))))))))))))

-- Every byte that any run asks for lies in the blob, accepted or refused: the header's in the lent bytes, the providers' in the first
-- size of them.
pub asks_inside : (s : List ℕ) → Each (λ p. p < length s) (places header s)
    × ((h : CrimHeader) → run header s ≡ done h → Each (λ p. p < h.size) (places (providers_of h) (take h.size s)))
asks_inside s = (
  (crim-header_asks s).inside,
  λ h e.
      subst (λ n. Each (λ p. p < n) (places (providers_of h) (take h.size s))) (length-take-le h.size s ((crim-header_asks s).found h e).fits)
      (providers-asked (take h.size s) h).inside,
)

-- an accepted reading, taken apart: the header over the lent bytes, the providers over the first size of them
pub record Read (s : List ℕ) (c : Crim) : Type 0 where
  pub headed : run header s ≡ done c.header
  pub provided : run (providers_of c.header) (take c.header.size s) ≡ done c.providers

pub crim-read : (s : List ℕ) (c : Crim) → crim s ≡ done c → Read s c
unfolding crim
crim-read s c e =
    let h = then-done _ _ c e in
    let p = then-done _ _ c h.2 in
    subst (Read s) (same _ _ p.2) (record { headed = h.1; provided = p.1 })

module _ (s : List ℕ) (c : Crim) (read : Read s c) where
  pub asked : places (providers_of c.header) (take c.header.size s) ≡ providers_bytes c.providers
  asked = (providers-asked (take c.header.size s) c.header).found c.providers read.provided

  pub headed : Headed s c.header (places header s)
  headed = (crim-header_asks s).found c.header read.headed

  pub n-bytes : length (take c.header.size s) ≡ c.header.size
  n-bytes = length-take-le c.header.size s headed.fits

  -- each of the providers' bytes lies in the blob
  pub asked_inside : Each (λ p. p < c.header.size) (providers_bytes c.providers)
  asked_inside = subst (Each (λ p. p < c.header.size)) asked ((asks_inside s).1 c.header read.headed)

-- the bytes that an accepted blob's reading asks for are those that it rests on, and no other, and each lies in the blob
pub rests : (s : List ℕ) (c : Crim) → crim s ≡ done c
    → (places header s ++ places (providers_of c.header) (take c.header.size s) ≡ rests_on c) × Each (λ p. p < c.header.size) (rests_on c)
unfolding rests_on
rests s c e =
    let read = crim-read s c e in (
      asked-append (headed s c read).asked (asked s c read),
      inside_append c.header.size (span 0 16) (providers_bytes c.providers) (inside_span c.header.size 0 16 (headed s c read).least) (asked_inside s c read),
    )
