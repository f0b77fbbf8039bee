-- What holds of each table that is read holds of each that an accepted block keeps. So each of these is of one of the eight kinds, and its
-- records have their entries in that kind's list.
use Prim.{Unit, tt}
use Prim.Native.Nat.{ℕ, zero, suc, ◌+◌, ◌≤◌, ◌<◌}
use Rattle.std.specs.Prelude.{◌≡◌, Bool, length, take, drop, eqb}
use Rattle.std.proofs.Math.Path.{refl}
use Rattle.std.proofs.Math.Bool.{true, false}
use mathlib.Core.List.{List, [], ◌∷◌, ◌++◌}
use Rattle.std.proofs.Common.{arith}
use borrow.Author.Tests.{eqb-false}
use Rattle.blob.specs.Reading.{Reading, got, done, choose, run, ◌>>=◌, many, each}
use Rattle.blob.proofs.Laws.{same, then-done}
use Rattle.blob.proofs.Finds.{Finds, finds-got, finds-room, finds-choose, finds_bind, finds-next}
use Rattle.blob.specs.Laid.{flat}
use Rattle.format.specs.Table.{header_at, CHAN, KEYW, LEVL, MAPS, OPCO, TASK, TTBL, kinds, kind_of, kind_list}
use Rattle.format.specs.Provider.{Rows, definitions, maps, templates, Table, Element, table, unknown, Provider, plain, events_at, table_at, unknown_at, element_of, element_at, provider_at}
use Rattle.format.specs.Crim.{Crim, header, described_at, providers_of, crim}
use Rattle.format.specs.Lists.{or_else, last_of, kept, Owned, owned_tables, list_of}
use Rattle.format.specs.Definition.{step}
use Rattle.format.proofs.Theorems.Listed.{owned}
use Rattle.format.proofs.Theorems.Rested.{kind-cases}
use Rattle.format.specs.declared.Header.{Header}
use Rattle.format.specs.declared.CrimHeader.{CrimHeader}
use Rattle.format.specs.declared.Guid.{Guid}
use Rattle.format.specs.declared.Descriptor.{Descriptor}

-- what holds of each of some values
abbrev pub All : {A : Type 0} → (A → Type 0) → List A → Type 0
All P [] = Unit {0}
All P (a ∷ vs) = P a × All P vs

pub all_append : {A : Type 0} (P : A → Type 0) (xs ys : List A) → All P xs → All P ys → All P (xs ++ ys)
all_append P [] ys h g = g
all_append P (x ∷ xs) ys h g = (h.0, all_append P xs ys h.1 g)

pub all-part : {A : Type 0} (P : A → Type 0) (n m : ℕ) (vs : List A) → All P vs → All P (take n (drop m vs))
all-part P zero m vs h = tt
all-part P (suc n) zero [] h = tt
all-part P (suc n) zero (v ∷ vs) h = (h.0, all-part P n zero vs h.1)
all-part P (suc n) (suc m) [] h = tt
all-part P (suc n) (suc m) (v ∷ vs) h = all-part P (suc n) m vs h.1

module _ (s : List ℕ) where
  pub anything : {A : Type 0} {r : Reading A} → Finds r s (λ a. Unit {0})
  anything = record { found = λ a e. tt }

  pub finds-many : {S A : Type 0} {p : S → Reading A} (next : A → S → S) (P : A → Type 0) → ((at : S) → Finds (p at) s P) → (n : ℕ) (at : S) → Finds (many p next n at) s (All P)
  unfolding many
  finds-many next P h zero at = finds-got tt
  finds-many next P h (suc n) at = finds_bind P (h at) (λ a q. finds_bind (All P) (finds-many next P h n _) (λ vs r. finds-got (q, r)))

  pub finds-each : {A B : Type 0} {f : A → Reading B} (P : B → Type 0) → ((a : A) → Finds (f a) s P) → (vs : List A) → Finds (each f vs) s (All P)
  unfolding each
  finds-each P h [] = finds-got tt
  finds-each P h (a ∷ vs) = finds_bind P (h a) (λ b q. finds_bind (All P) (finds-each P h vs) (λ bs r. finds-got (q, r)))

-- what holds of each table that is read, of whatever kind, holds of each that an accepted block keeps
module _ (P : Table → Type 0) where
  abbrev OfElement : Element → Type 0
  OfElement (table t) = P t
  OfElement (unknown u) = Unit {0}

  -- where it holds of a table of a kind that some signature names
  abbrev OfTables : List ℕ → Type 0
  OfTables s = (sig at : ℕ) (h : Header) → 1 ≤ kind_of sig → Finds (table_at (kind_of sig) at h) s P

  -- through the reading
  module _ (s : List ℕ) (f : OfTables s) where
    of-unknown : (at : ℕ) → Finds (unknown_at at) s OfElement
    unfolding unknown_at
    of-unknown at = finds-room (λ _. finds-room (λ _. finds-next 4 at (λ x _. finds-next 4 _ (λ z _. finds-room (λ _. finds-got tt)))))

    of-element : (d : Descriptor) → Finds (element_at d) s OfElement
    unfolding element_at element_of
    of-element d =
        let k = kind_of d.signature in
        finds-choose (eqb k 0)
        (λ _. of-unknown d.offset)
        (λ n. finds_bind _ (anything s) (λ h _. finds_bind P (f d.signature _ h (omega (arith, eqb-false k 0 n))) (λ t q. finds-got q)))

    of-provider : (guid : Guid) (at : ℕ) → Finds (provider_at guid at) s (λ p. All OfElement p.elements)
    unfolding provider_at
    of-provider guid at =
        finds_bind _ (anything s) (λ w _. finds-room (λ _. finds_bind _ (anything s) (λ ds _. finds-room (λ _. finds_bind _ (anything s) (λ u _.
        finds_bind _ (finds-each s OfElement of-element ds) (λ es q. finds-got q))))))

    of-described : (at : ℕ) → Finds (described_at at) s (λ p. All OfElement p.elements)
    unfolding described_at
    of-described at = finds_bind _ (anything s) (λ guid _. finds-next 4 _ (λ offset _. of-provider guid offset))

    of-providers : (h : CrimHeader) → Finds (providers_of h) s (All (λ p. All OfElement p.elements))
    unfolding providers_of
    of-providers h = finds-room (λ _. finds-many s (step 20) _ of-described _ _)

  -- to the tables that are kept: the last one of a kind is one of them
  of-last : (k : ℕ) (es : List Element) → All OfElement es → All P (last_of k es)
  unfolding last_of
  of-last k [] h = tt
  of-last k (unknown u ∷ es) h = of-last k es h.1
  of-last k (table t ∷ es) h = go (last_of k es) (eqb t.kind k) (of-last k es h.1)
    where
      go : (l : List Table) (b : Bool) → All P l → All P (or_else l (choose b (t ∷ []) []))
      go (u ∷ us) b g = g
      go [] true g = (h.0, tt)
      go [] false g = tt

  of-kinds : (es : List Element) → All OfElement es → (ks : List ℕ) → All P (flat (λ k. last_of k es) ks)
  unfolding flat
  of-kinds es h [] = tt
  of-kinds es h (k ∷ ks) = all_append P (last_of k es) _ (of-last k es h) (of-kinds es h ks)

  of-kept : (ps : List Provider) → All (λ p. All OfElement p.elements) ps → All (λ p. All P (kept p.elements)) ps
  of-kept [] h = tt
  of-kept (p ∷ ps) h = (of-kinds p.elements h.0 kinds, of-kept ps h.1)

  pub each-kept : (bytes : List ℕ) (c : Crim) → crim bytes ≡ done c → ((size : ℕ) → OfTables (take size bytes)) → All (λ p. All P (kept p.elements)) c.providers
  unfolding crim
  each-kept bytes c e f =
      let h = then-done (run header bytes) _ c e in
      let ps = then-done (run (providers_of h.0) (take h.0.size bytes)) _ c h.2 in
      rw (← same _ _ ps.2) (of-kept ps.0 ((of-providers _ (f h.0.size) h.0).found ps.0 ps.1))

  -- and to those with their providers' numbers, each under m
  pub each_owned_lem : (Q : Owned → Type 0) (n m : ℕ) → ((i : ℕ) (t : Table) → i < m → P t → Q (record { provider = i; table = t }))
      → (ps : List Provider) → n + length ps ≤ m → All (λ p. All P (kept p.elements)) ps → All Q (owned_tables n ps)
  unfolding owned_tables
  each_owned_lem Q n m q [] h k = tt
  each_owned_lem Q n m q (p ∷ ps) h k = all_append Q (owned n (kept p.elements)) _ (go (kept p.elements) k.0) (each_owned_lem Q (suc n) m q ps (omega arith) k.1)
    where
      go : (ts : List Table) → All P ts → All Q (owned n ts)
      go [] k = tt
      go (t ∷ ts) k = (q n t (omega arith) k.0, go ts k.1)

-- a table of a kind, with its records in the kind's list
pub record Known (t : Table) : Type 0 where
  pub low : 1 ≤ t.kind
  pub high : t.kind ≤ 8
  pub list : list_of t.rows ≡ kind_list t.kind

module _ (s : List ℕ) (at : ℕ) (h : Header) where
  -- a table with no trailing part, and EVNT
  plain_table : {A : Type 0} (k : ℕ) (r : Reading A) (rows : A → Rows) → k ≤ 8 → ((a : A) → list_of (rows a) ≡ kind_list k) → 1 ≤ k
      → Finds (r >>= λ a. got (plain k at h (rows a))) s Known
  plain_table k r rows g e l = finds_bind _ (anything s) (λ a _. finds-got (record { low = l; high = g; list = e a }))

  events-known : Finds (events_at at h) s Known
  unfolding events_at
  events-known =
      finds_bind _ (anything s) (λ e _. finds-next 4 _ (λ x _. finds_bind _ (anything s) (λ es _. finds-got (record { low = omega arith; high = omega arith; list = refl }))))

  table-known : (sig : ℕ) → 1 ≤ kind_of sig → Finds (table_at (kind_of sig) at h) s Known
  unfolding table_at
  table-known sig =
      kind-cases (λ k. 1 ≤ k → Finds (table_at k at h) s Known) kinds sig (λ l. absurd (omega arith)) (
        plain_table CHAN _ definitions (omega arith) (λ ds. refl),
        (
          λ l. events-known,
          (
            plain_table KEYW _ definitions (omega arith) (λ ds. refl),
            (
              plain_table LEVL _ definitions (omega arith) (λ ds. refl),
              (
                plain_table MAPS _ maps (omega arith) (λ ms. refl),
                (
                  plain_table OPCO _ definitions (omega arith) (λ ds. refl),
                  (plain_table TASK _ definitions (omega arith) (λ ds. refl), (plain_table TTBL _ templates (omega arith) (λ ts. refl), tt)),
                ),
              ),
            ),
          ),
        ),
      )

-- Of the eight kinds the same, step by step: what is known of each table is known of each element, provider and kept table.
abbrev KnownElement : Element → Type 0
KnownElement e = OfElement Known e

module _ (s : List ℕ) where
  tables-known : OfTables Known s
  tables-known sig at h = table-known s at h sig

  plain_known : {A : Type 0} (k at : ℕ) (h : Header) (r : Reading A) (rows : A → Rows) → 1 ≤ k → k ≤ 8 → ((a : A) → list_of (rows a) ≡ kind_list k)
      → Finds (r >>= λ a. got (plain k at h (rows a))) s Known
  plain_known k at h r rows l g e = plain_table s at h k r rows g e l

  of_kind : (k at : ℕ) → ((h : Header) → Finds (table_at k at h) s Known) → Finds (header_at k at >>= λ h. table_at k at h >>= λ t. got (table t)) s KnownElement
  of_kind k at f = finds_bind _ (anything s) (λ h _. finds_bind Known (f h) (λ t q. finds-got q))

  unknown-known : (at : ℕ) → Finds (unknown_at at) s KnownElement
  unknown-known = of-unknown Known s tables-known

  element-known : (d : Descriptor) → Finds (element_at d) s KnownElement
  element-known = of-element Known s tables-known

  provider-known : (guid : Guid) (at : ℕ) → Finds (provider_at guid at) s (λ p. All KnownElement p.elements)
  provider-known = of-provider Known s tables-known

  described-known : (at : ℕ) → Finds (described_at at) s (λ p. All KnownElement p.elements)
  described-known = of-described Known s tables-known

  providers-known : (h : CrimHeader) → Finds (providers_of h) s (All (λ p. All KnownElement p.elements))
  providers-known = of-providers Known s tables-known

last-known : (k : ℕ) (es : List Element) → All KnownElement es → All Known (last_of k es)
last-known = of-last Known

kept-known : (es : List Element) → All KnownElement es → (ks : List ℕ) → All Known (flat (λ k. last_of k es) ks)
kept-known = of-kinds Known

all-kept : (ps : List Provider) → All (λ p. All KnownElement p.elements) ps → All (λ p. All Known (kept p.elements)) ps
all-kept = of-kept Known

-- each kept table of each provider of an accepted block
pub known : (bytes : List ℕ) (c : Crim) → crim bytes ≡ done c → All (λ p. All Known (kept p.elements)) c.providers
known bytes c e = each-kept Known bytes c e (λ size sig at h. table-known (take size bytes) at h sig)

-- a table that names one of m providers
abbrev pub Sound : ℕ → Owned → Type 0
Sound m o = (o.provider < m) × Known o.table

pub owned-known : (n m : ℕ) (ps : List Provider) → n + length ps ≤ m → All (λ p. All Known (kept p.elements)) ps → All (Sound m) (owned_tables n ps)
owned-known n m = each_owned_lem Known (Sound m) n m (λ i t l k. (l, k))
