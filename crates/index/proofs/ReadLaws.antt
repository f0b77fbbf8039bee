-- What holds of rows that are passed and rows that are given: what is left decides.
use Prim.{tt}
use Prim.Native.Nat.{ℕ, zero, suc, ◌+◌, ◌-◌, ◌*◌, ◌/◌, ◌%◌, ◌≤◌, ◌<◌}
use Rattle.std.specs.Prelude.{◌≡◌, Bool, true, false, set, eqb, Ok, Err}
use Rattle.std.proofs.Math.Path.{refl, ap, ap₂, sym, subst}
use Rattle.std.proofs.Common.{◌∙◌, length-append, length-set}
use mathlib.Core.List.{List, [], ◌∷◌, ◌++◌}
use Rattle.std.proofs.Math.Nat.{sub-zero, suc-sub-suc}
use Rattle.std.proofs.Math.Numerals.{add-one}
use native.Mathlib.Omega.{arith}
use Rattle.std.proofs.Math.ListN.{length, get_or, drop, drop_of_length-le}
use Rattle.std.proofs.Math.Seq.{drop-cons}
use borrow.Author.Tests.{eq-eqb, ne_eqb, le-leb, lt-leb}
use Rattle.blob.specs.Reading.{Outcome, done, refused, choose, then, verdict}
use Rattle.blob.proofs.Laws.{same, then-done, result_found, result_refused}
use Rattle.blob.specs.Laid.{laid, flat, length-laid, laid_more, laid-behind}
use Rattle.blob.specs.declared.Refusal.{Refusal}
use Rattle.format.proofs.Theorems.Known.{All}
use Rattle.number.specs.Number.{WORD, LONG, fault, number_at}
use Rattle.number.specs.Scan.{most}
use Rattle.number.proofs.Scan.{most-long, wider, read_fits}
use Rattle.number.specs.declared.Number.{Number}
use Rattle.number.specs.declared.Width.{Width}
use Rattle.number.specs.declared.Width.TheVariants as widths
use Rattle.index.specs.Index.{EDITION, ONE, ENTRY, Index, Row, Rows, row_at, rows_at, index, number_words, row_words, INDEX, with_room, reading, AllowedRead}
use Rattle.format.specs.Answer.{too_small}
use Rattle.index.specs.declared.Word.{Word}
use Rattle.index.specs.declared.Shape.{Shape}
use Rattle.index.specs.declared.Place.{Place}
use Rattle.index.specs.Read.{mosts, word_read, behind_number, behind_row, behind_rows, row_of, rows_of, words_of, Counted, counted_at, counted_read, counted_of, Shaped, narrow, RowStands, RowsStand, RowGiven, RowsGiven, counted_words, CountedStands, CountedGiven, Stands, Giving, RowLeft, RowsLeft, Parts}

-- what was found, by what is told of it
pub was_word : (o : Outcome Number) (w : Word) → Ok w ≡ word_read o → (n : Number) × (o ≡ done n) × (n.value ≡ w.value) × (n.behind ≡ w.behind)
was_word (done n) w e = (n, refl, cc, cc)
was_word (refused r) w e = absurd (let z : ◌≡◌ {A = ℕ} 0 1 = cc in omega arith)

-- what was passed is what is read
pub passed_read : (bytes : List ℕ) (at next : ℕ) (n : Number) → Ok next ≡ behind_number (number_at WORD bytes at) → number_at LONG bytes at ≡ done n → number_at WORD bytes at ≡ done n
passed_read bytes at next n e h =
    let f = result_found _ _ next e in
    f.1 ∙ ap done (same _ _ (sym (wider WORD LONG bytes at f.0 (omega arith) f.1) ∙ h))

pub passed_stands : (bytes : List ℕ) (at next : ℕ) → Ok next ≡ behind_number (number_at WORD bytes at) → verdict (number_at LONG bytes at) ≡ Ok tt
passed_stands bytes at next e = let f = result_found _ _ next e in ap verdict (wider WORD LONG bytes at f.0 (omega arith) f.1)

-- where a width's numbers are not given in two words, they have 32 bits
most-narrow : (w : Width) → eqb (most w) LONG ≡ false → most w ≤ WORD
most-narrow widths.Byte e = omega arith
most-narrow widths.Half e = omega arith
most-narrow widths.Word e = omega arith
most-narrow widths.Long e = absurd (let z : ◌≡◌ {A = ℕ} 0 1 = cc in omega arith)

-- A row from one of its widths on: none is left; one, and those behind it.
module _ (ws : List Width) (bytes : List ℕ) (i at : ℕ) where
  pub row-over : length ws ≤ i → row_at (mosts (drop i ws)) bytes at ≡ done (record { numbers = []; behind = at })
  unfolding row_at
  row-over h = rw (drop_of_length-le ws h)

  module _ (d : Width) (h : i < length ws) where
    abbrev w : Width
    w = get_or ws i d

    widths_on : mosts (drop i ws) ≡ most w ∷ mosts (drop (i + 1) ws)
    widths_on = rw (drop-cons ws i d h, add-one i)

    row_on : row_at (mosts (drop i ws)) bytes at
        ≡ then (number_at (most w) bytes at) (λ n. then (row_at (mosts (drop (i + 1) ws)) bytes n.behind) (λ r. done (record { numbers = n.value ∷ r.numbers; behind = r.behind })))
    unfolding row_at
    row_on = rw widths_on

    pub row_stops : (q : Refusal) → Err q ≡ behind_number (number_at (most w) bytes at) → Err q ≡ behind_row (row_at (mosts (drop i ws)) bytes at)
    unfolding then
    row_stops q e = rw (row_on, result_refused _ _ q e)

    pub row_goes : (next : ℕ) → Ok next ≡ behind_number (number_at (most w) bytes at) → behind_row (row_at (mosts (drop i ws)) bytes at) ≡ behind_row (row_at (mosts (drop (i + 1) ws)) bytes next)
    unfolding then
    row_goes next e = let n = result_found _ _ next e in rw (row_on, n.1, ← n.2) (go n.0 (row_at (mosts (drop (i + 1) ws)) bytes next))
      where
        go : (n : Number) (o : Outcome Row) → behind_row (then o (λ r. done (record { numbers = n.value ∷ r.numbers; behind = r.behind }))) ≡ behind_row o
        go n (done r) = refl
        go n (refused q) = refl

    pub row-was : (r : Row) → row_at (mosts (drop i ws)) bytes at ≡ done r
        → (n : Number) × (number_at (most w) bytes at ≡ done n) × (rest : Row) × (row_at (mosts (drop (i + 1) ws)) bytes n.behind ≡ done rest) × (r ≡ record { numbers = n.value ∷ rest.numbers; behind = rest.behind })
    row-was r e =
        let a = then-done (number_at (most w) bytes at) _ r (sym row_on ∙ e) in
        let b = then-done (row_at (mosts (drop (i + 1) ws)) bytes a.0.behind) _ r a.2 in
        (a.0, a.1, b.0, b.1, sym (same _ r b.2))

-- The same of rows.
module _ (ws bytes : List ℕ) (left at : ℕ) where
  pub rows-over : left ≤ 0 → rows_at left ws bytes at ≡ done (record { rows = []; behind = at })
  unfolding rows_at
  rows-over h = let z : left ≡ 0 = omega arith in rw z

  rows_on : 0 < left → rows_at left ws bytes at ≡ then (row_at ws bytes at) (λ r. then (rows_at (left - 1) ws bytes r.behind) (λ rs. done (record { rows = r.numbers ∷ rs.rows; behind = rs.behind })))
  unfolding rows_at
  rows_on h = go left h
    where
      go : (k : ℕ) → 0 < k → rows_at k ws bytes at ≡ then (row_at ws bytes at) (λ r. then (rows_at (k - 1) ws bytes r.behind) (λ rs. done (record { rows = r.numbers ∷ rs.rows; behind = rs.behind })))
      go zero h = absurd (omega arith)
      go (suc k) h = rw (suc-sub-suc k 0, sub-zero k)

  pub rows_stop : (q : Refusal) → 0 < left → Err q ≡ behind_row (row_at ws bytes at) → Err q ≡ behind_rows (rows_at left ws bytes at)
  unfolding then
  rows_stop q h e = rw (rows_on h, result_refused _ _ q e)

  pub rows_go : (next : ℕ) → 0 < left → Ok next ≡ behind_row (row_at ws bytes at) → behind_rows (rows_at left ws bytes at) ≡ behind_rows (rows_at (left - 1) ws bytes next)
  unfolding then
  rows_go next h e = let r = result_found _ _ next e in rw (rows_on h, r.1, ← r.2) (go r.0 (rows_at (left - 1) ws bytes next))
    where
      go : (r : Row) (o : Outcome Rows) → behind_rows (then o (λ rs. done (record { rows = r.numbers ∷ rs.rows; behind = rs.behind }))) ≡ behind_rows o
      go r (done rs) = refl
      go r (refused q) = refl

  pub rows-were : (r : Rows) → 0 < left → rows_at left ws bytes at ≡ done r
      → (n : Row) × (row_at ws bytes at ≡ done n) × (rest : Rows) × (rows_at (left - 1) ws bytes n.behind ≡ done rest) × (r ≡ record { rows = n.numbers ∷ rest.rows; behind = rest.behind })
  rows-were r h e =
      let a = then-done (row_at ws bytes at) _ r (sym (rows_on h) ∙ e) in
      let b = then-done (rows_at (left - 1) ws bytes a.0.behind) _ r a.2 in
      (a.0, a.1, b.0, b.1, sym (same _ r b.2))

pub giving_more : (g gs : List ℕ) (stop next : ℕ) (lent now : List ℕ) (behind end : ℕ) (after : List ℕ) → Giving (g ++ gs) stop next lent behind end after → now ≡ laid lent next g
    → Giving gs stop (next + length g) now behind end after
giving_more g gs stop next lent now behind end after h e =
    record { stops = h.stops; ends = let a = h.ends in let b = length-append g gs in omega (arith, a, b); fills = rw e (sym (laid_more lent next g gs) ∙ h.fills) }

pub giving_none : (stop next : ℕ) (lent : List ℕ) (behind end : ℕ) (after : List ℕ) → Giving [] stop next lent behind end after
    → ◌≡◌ {A = Place} (record { at = stop; to = next }) (record { at = behind; to = end }) × (lent ≡ after)
unfolding laid
giving_none stop next lent behind end after h = let a = h.ends in (ap₂ (λ p t. record { at = p; to = t }) h.stops (omega (arith, a)), h.fills)

-- the one word of a number that has none of 64 bits
pub words_one : (w : Width) (n : ℕ) → (w ≡ widths.Long → ⊥) → narrow (most w) n → number_words (most w) n ≡ n % 4294967296 ∷ []
words_one widths.Byte n h f = ap (λ x. x ∷ []) (let l = f refl in omega (arith, l))
words_one widths.Half n h f = ap (λ x. x ∷ []) (let l = f refl in omega (arith, l))
words_one widths.Word n h f = ap (λ x. x ∷ []) (let l = f refl in omega (arith, l))
words_one widths.Long n h f = absurd (h refl)

pub row_of_room : (ws bytes : List ℕ) (at to room : ℕ) → RowStands ws bytes at to room → to + length (row_words ws (row_of (row_at ws bytes at)).numbers) ≤ room
row_of_room ws bytes at to room s = rw s.1 s.2

module _ (ws : List Width) {bytes : List ℕ} {i at next : ℕ} {lent : List ℕ} {behind end : ℕ} {after : List ℕ} (l : RowLeft (mosts (drop i ws)) bytes at next lent behind end after) where
  pub row-left_none : length ws ≤ i → ◌≡◌ {A = Place} (record { at = at; to = next }) (record { at = behind; to = end }) × (lent ≡ after)
  unfolding row_words
  row-left_none h =
      let e : l.row ≡ record { numbers = []; behind = at } = sym (same _ l.row (sym (row-over ws bytes i at h) ∙ l.found)) in
      giving_none at next lent behind end after (rw (e, drop_of_length-le ws h) at l.giving)

  module _ (h : i < length ws) where
    abbrev w' : Width
    w' = get_or ws i widths.Byte

    -- the number that is next, by its width and as one of any
    row-left_next : (n : Number) × (number_at LONG bytes at ≡ done n) × (rest : Row) × (row_at (mosts (drop (i + 1) ws)) bytes n.behind ≡ done rest) × (n.value ≤ most w')
        × Giving (number_words (most w') n.value ++ row_words (mosts (drop (i + 1) ws)) rest.numbers) rest.behind next lent behind end after
    unfolding row_words
    row-left_next =
        let a = row-was ws bytes i at widths.Byte h l.row l.found in
        let g : row_words (mosts (drop i ws)) l.row.numbers ≡ number_words (most w') a.0.value ++ row_words (mosts (drop (i + 1) ws)) a.2.numbers = ap₂ row_words (widths_on ws bytes i at widths.Byte h) (ap (λ (r : Row). r.numbers) a.4) in
        let b : l.row.behind ≡ a.2.behind = ap (λ (r : Row). r.behind) a.4 in (
          a.0,
          wider (most w') LONG bytes at a.0 (most-long w') a.1,
          a.2,
          a.3,
          read_fits (most w') bytes at a.0 a.1,
          subst (λ (gs : List ℕ). Giving gs a.2.behind next lent behind end after) g (subst (λ stop. Giving (row_words (mosts (drop i ws)) l.row.numbers) stop next lent behind end after) b l.giving),
        )

    pub row-left_stands : verdict (number_at LONG bytes at) ≡ Ok tt
    row-left_stands = ap verdict row-left_next.1

    module _ {n : Number} (e : number_at LONG bytes at ≡ done n) where
      same_number : row-left_next.0 ≡ n
      same_number = same _ n (sym row-left_next.1 ∙ e)

      pub row-left_narrow : narrow (most w') n.value
      row-left_narrow f = let b = most-narrow w' f in let a = rw same_number at row-left_next.4 in omega (arith, a, b)

      pub row-left_room : next + length (number_words (most w') n.value) ≤ end
      row-left_room =
          let g = rw same_number at row-left_next.5 in
          let k = g.ends in
          let q = length-append (number_words (most w') n.value) (row_words (mosts (drop (i + 1) ws)) row-left_next.2.numbers) in
          omega (arith, k, q)

      pub row-left_more : {to : ℕ} {now : List ℕ} → to ≡ next + length (number_words (most w') n.value) → now ≡ laid lent next (number_words (most w') n.value)
          → RowLeft (mosts (drop (i + 1) ws)) bytes n.behind to now behind end after
      row-left_more {to} {now} t k =
          let a = row-left_next in
          record {
            row = a.2;
            found = rw same_number at a.3;
            giving = rw t (giving_more _ _ _ next lent now behind end after (rw same_number at a.5) k);
          }

pub rows_of-room : (n : ℕ) (ws bytes : List ℕ) (at to room : ℕ) → RowsStand n ws bytes at to room → to + length (flat (row_words ws) (rows_of (rows_at n ws bytes at)).rows) ≤ room
rows_of-room n ws bytes at to room s = rw s.1 s.2

module _ {left : ℕ} {ws bytes : List ℕ} {at next : ℕ} {lent : List ℕ} {behind end : ℕ} {after : List ℕ} (l : RowsLeft left ws bytes at next lent behind end after) where
  pub rows-left_none : left ≤ 0 → ◌≡◌ {A = Place} (record { at = at; to = next }) (record { at = behind; to = end }) × (lent ≡ after)
  unfolding flat
  rows-left_none h =
      let e : l.rows ≡ record { rows = []; behind = at } = sym (same _ l.rows (sym (rows-over ws bytes left at h) ∙ l.found)) in
      giving_none at next lent behind end after (rw e at l.giving)

  rows-left_next : 0 < left
      → (r : Row) × (row_at ws bytes at ≡ done r) × (rest : Rows) × (rows_at (left - 1) ws bytes r.behind ≡ done rest)
      × Giving (row_words ws r.numbers ++ flat (row_words ws) rest.rows) rest.behind next lent behind end after
  unfolding flat
  rows-left_next h = let a = rows-were ws bytes left at l.rows h l.found in (a.0, a.1, a.2, a.3, rw a.4 at l.giving)

  pub rows-left_stand : {room : ℕ} → end ≤ room → 0 < left → RowStands ws bytes at next room
  rows-left_stand m h =
      let a = rows-left_next h in
      let k = a.4.ends in
      let q = length-append (row_words ws a.0.numbers) (flat (row_words ws) a.2.rows) in
      (a.0, a.1, omega (arith, k, q, m))

  pub rows-left_more : 0 < left → {p : Place} {now : List ℕ} → RowGiven ws bytes at lent next p now → RowsLeft (left - 1) ws bytes p.at p.to now behind end after
  rows-left_more h {p} {now} g =
      let a = rows-left_next h in
      let o : row_of (row_at ws bytes at) ≡ a.0 = rw a.1 refl in
      let e : p ≡ record { at = a.0.behind; to = next + length (row_words ws a.0.numbers) } = rw o at g.place in
      let k : now ≡ laid lent next (row_words ws a.0.numbers) = rw o at g.kept in
      rw e (record { rows = a.2; found = a.3; giving = giving_more _ _ _ next lent now behind end after a.4 k })

-- A count and its rows: what is found by their parts.
module _ (ws bytes : List ℕ) (at : ℕ) where
  pub counted_none : (q : Refusal) → number_at WORD bytes at ≡ refused q → counted_at ws bytes at ≡ refused q
  unfolding counted_at then
  counted_none q e = rw e

  module _ (n : Number) (v b : ℕ) (e : number_at WORD bytes at ≡ done n) (f : n.value ≡ v) (g : n.behind ≡ b) where
    pub counted-stops : (q : Refusal) → rows_at v ws bytes b ≡ refused q → counted_at ws bytes at ≡ refused q
    unfolding counted_at then
    counted-stops q h = rw (e, f, g, h)

    pub counted-goes : (r : Rows) (x : ℕ) → rows_at v ws bytes b ≡ done r → r.behind ≡ x → counted_read (counted_at ws bytes at) ≡ Ok (record { value = v; behind = x })
    unfolding counted_at then
    counted-goes r x h k = rw (e, f, g, h, k)

  pub then_counted : {B : Type 0} (k : Counted → Outcome B)
      → then (counted_at ws bytes at) k ≡ then (number_at WORD bytes at) (λ n. then (rows_at n.value ws bytes n.behind) (λ r. k (record { count = n.value; rows = r.rows; behind = r.behind })))
  unfolding counted_at then
  then_counted {B} k = go (number_at WORD bytes at)
    where
      rest : (n : Number) (o : Outcome Rows) → then (then o (λ r. done (record { count = n.value; rows = r.rows; behind = r.behind }))) k ≡ then o (λ r. k (record { count = n.value; rows = r.rows; behind = r.behind }))
      rest n (done r) = refl
      rest n (refused q) = refl

      go : (o : Outcome Number)
          → then (then o (λ n. then (rows_at n.value ws bytes n.behind) (λ r. done (record { count = n.value; rows = r.rows; behind = r.behind })))) k
          ≡ then o (λ n. then (rows_at n.value ws bytes n.behind) (λ r. k (record { count = n.value; rows = r.rows; behind = r.behind })))
      go (done n) = rest n (rows_at n.value ws bytes n.behind)
      go (refused q) = refl

pub was_counted : (o : Outcome Counted) (w : Word) → Ok w ≡ counted_read o → (c : Counted) × (o ≡ done c) × (c.count ≡ w.value) × (c.behind ≡ w.behind)
was_counted (done c) w e = (c, refl, cc, cc)
was_counted (refused r) w e = absurd (let z : ◌≡◌ {A = ℕ} 0 1 = cc in omega arith)

-- The index by its parts: its edition, the providers' counts, the entries.
abbrev from_entries : List ℕ → Counted → Counted → Outcome Index
from_entries bytes c e = choose (eqb e.behind (length bytes)) (done (record { counts = flat (λ r. r) c.rows; entries = e.rows })) (refused (fault 18 e.behind))

module _ (bytes : List ℕ) where
  pub no-edition : (q : Refusal) → number_at WORD bytes 0 ≡ refused q → index bytes ≡ refused q
  unfolding index then
  no-edition q e = rw e

  module _ (n : Number) (e : number_at WORD bytes 0 ≡ done n) where
    pub other_edition : (n.value ≡ EDITION → ⊥) → index bytes ≡ refused (fault 17 0)
    unfolding index then
    other_edition h = rw (e, ne_eqb n.value EDITION h)

    module _ (h : n.value ≡ EDITION) where
      from-counts : index bytes ≡ then (counted_at ONE bytes n.behind) (λ c. then (counted_at ENTRY bytes c.behind) (λ e. from_entries bytes c e))
      unfolding index then
      from-counts = rw (e, h) (sym (then_counted ONE bytes n.behind _) ∙ go (counted_at ONE bytes n.behind))
        where
          go : (o : Outcome Counted)
              → then o (λ c. then (number_at WORD bytes c.behind) (λ entries. then (rows_at entries.value ENTRY bytes entries.behind) (λ rows.
              from_entries bytes c (record { count = entries.value; rows = rows.rows; behind = rows.behind }))))
              ≡ then o (λ c. then (counted_at ENTRY bytes c.behind) (λ e. from_entries bytes c e))
          go (done c) = sym (then_counted ENTRY bytes c.behind (from_entries bytes c))
          go (refused q) = refl

      pub no-counts : (q : Refusal) → counted_at ONE bytes n.behind ≡ refused q → index bytes ≡ refused q
      unfolding then
      no-counts q f = from-counts ∙ rw f

      module _ (c : Counted) (f : counted_at ONE bytes n.behind ≡ done c) where
        pub no-entries : (q : Refusal) → counted_at ENTRY bytes c.behind ≡ refused q → index bytes ≡ refused q
        unfolding then
        no-entries q g = from-counts ∙ rw (f, g)

        module _ (r : Counted) (g : counted_at ENTRY bytes c.behind ≡ done r) where
          pub left_over : (r.behind ≡ length bytes → ⊥) → index bytes ≡ refused (fault 18 r.behind)
          unfolding then
          left_over k = from-counts ∙ rw (f, g, ne_eqb r.behind (length bytes) k)

          pub whole : r.behind ≡ length bytes → index bytes ≡ done (record { counts = flat (λ r. r) c.rows; entries = r.rows })
          unfolding then
          whole k = from-counts ∙ rw (f, g, eq-eqb r.behind (length bytes) k)

-- a row has a number for each width
row-length : (ws bytes : List ℕ) (at : ℕ) (r : Row) → row_at ws bytes at ≡ done r → length r.numbers ≡ length ws
unfolding row_at
row-length [] bytes at r e = ap (λ (r : Row). length r.numbers) (sym (same _ r e))
row-length (w ∷ ws) bytes at r e =
    let a = then-done (number_at w bytes at) _ r e in
    let b = then-done (row_at ws bytes a.0.behind) _ r a.2 in
    ap (λ (r : Row). length r.numbers) (sym (same _ r b.2)) ∙ ap suc (row-length ws bytes a.0.behind b.0 b.1)

rows-length : (n : ℕ) (ws bytes : List ℕ) (at : ℕ) (r : Rows) → rows_at n ws bytes at ≡ done r → (length r.rows ≡ n) × All (λ ns. length ns ≡ length ws) r.rows
unfolding rows_at
rows-length zero ws bytes at r e = rw (← same _ r e) (refl, tt)
rows-length (suc n) ws bytes at r e =
    let a = then-done (row_at ws bytes at) _ r e in
    let b = then-done (rows_at n ws bytes a.0.behind) _ r a.2 in
    let i = rows-length n ws bytes a.0.behind b.0 b.1 in
    rw (← same _ r b.2) (ap suc i.0, (row-length ws bytes at a.0 a.1, i.1))

-- the words of rows of single numbers are these numbers, and those of an entry ten
single_words : (rs : List (List ℕ)) → All (λ ns. length ns ≡ 1) rs → (flat (row_words ONE) rs ≡ flat (λ r. r) rs) × (length (flat (λ r. r) rs) ≡ length rs)
unfolding flat row_words
single_words [] a = (refl, refl)
single_words ([] ∷ rs) a = absurd (let e = a.0 in omega (arith, e))
single_words ((n ∷ []) ∷ rs) a = let i = single_words rs a.1 in (ap (λ (l : List ℕ). n ∷ l) i.0, ap suc i.1)
single_words ((n ∷ m ∷ ns) ∷ rs) a = absurd (let e = a.0 in omega (arith, e))

unfoldable word_count : List ℕ → ℕ
word_count [] = 0
word_count (w ∷ ws) = choose (eqb w LONG) 2 1 + word_count ws

row_count_lem : (ws ns : List ℕ) → length ns ≡ length ws → length (row_words ws ns) ≡ word_count ws
unfolding row_words word_count
row_count_lem [] ns e = refl
row_count_lem (w ∷ ws) [] e = absurd (omega arith)
row_count_lem (w ∷ ws) (n ∷ ns) e = length-append (number_words w n) (row_words ws ns) ∙ ap₂ (λ a b. a + b) (go (eqb w LONG)) (row_count_lem ws ns (omega arith))
  where
    go : (t : Bool) → length (choose t (n % 4294967296 ∷ n / 4294967296 ∷ []) (n ∷ [])) ≡ choose t 2 1
    go true = refl
    go false = refl

entry-words : (rs : List (List ℕ)) → All (λ ns. length ns ≡ length ENTRY) rs → length (flat (row_words ENTRY) rs) ≡ 10 * length rs
unfolding flat word_count
entry-words [] a = refl
entry-words (ns ∷ rs) a =
    let i = entry-words rs a.1 in
    let c : length (row_words ENTRY ns) ≡ 10 = row_count_lem ENTRY ns a.0 in
    length-append (row_words ENTRY ns) (flat (row_words ENTRY) rs) ∙ omega (arith, i, c)

pub parts : (ws bytes : List ℕ) (at : ℕ) (c : Counted) → counted_at ws bytes at ≡ done c → Parts ws bytes at c
unfolding counted_at
parts ws bytes at c e =
    let a = then-done (number_at WORD bytes at) _ c e in
    let b = then-done (rows_at a.0.value ws bytes a.0.behind) _ c a.2 in
    record { number = a.0; rows = b.0; number_read = a.1; rows-read = b.1; shown = sym (same _ c b.2) }

counted-length : (ws bytes : List ℕ) (at : ℕ) (c : Counted) → counted_at ws bytes at ≡ done c → (length c.rows ≡ c.count) × All (λ ns. length ns ≡ length ws) c.rows
counted-length ws bytes at c e = let p = parts ws bytes at c e in rw p.shown (rows-length p.number.value ws bytes p.number.behind p.rows p.rows-read)

-- the words of an index that was tested, and how many they are
all_read : (bytes : List ℕ) (s : Shape) (h : Shaped bytes s) → s.end ≡ length bytes → h.entries.behind ≡ length bytes
all_read bytes s h e = ap (λ (s : Shape). s.end) (sym h.shown) ∙ e

pub shaped_words : (bytes : List ℕ) (s : Shape) (h : Shaped bytes s) → s.end ≡ length bytes
    → (words_of bytes ≡ counted_words ONE h.counts ++ counted_words ENTRY h.entries) × (length (words_of bytes) ≡ 2 + s.providers + 10 * s.entries)
shaped_words bytes s h b =
    let w = whole bytes h.edition h.edition_read h.edition_one h.counts h.counts-read h.entries h.entries-read (all_read bytes s h b) in
    let c = counted-length ONE bytes h.edition.behind h.counts h.counts-read in
    let e = counted-length ENTRY bytes h.counts.behind h.entries h.entries-read in
    let o = single_words h.counts.rows c.1 in
    let n = entry-words h.entries.rows e.1 in
    let g : words_of bytes ≡ counted_words ONE h.counts ++ counted_words ENTRY h.entries = rw (w, o.0, o.1, c.0, e.0) refl in
    let k = length-append (flat (row_words ONE) h.counts.rows) (counted_words ENTRY h.entries) in
    let f = ap length o.0 in
    (g, rw h.shown (ap length g ∙ omega (arith, k, f, o.1, c.0, e.0, n)))

-- a single number as a row
one-row : (bytes : List ℕ) (at : ℕ) (n : Number) → number_at WORD bytes at ≡ done n → rows_at 1 ONE bytes at ≡ done (record { rows = (n.value ∷ []) ∷ []; behind = n.behind })
unfolding rows_at row_at then
one-row bytes at n e = rw e

-- the count is given first, the rows behind it
module _ {n : ℕ} {ws bytes : List ℕ} {at to room : ℕ} (s : CountedStands n ws bytes at to room) where
  abbrev here : Parts ws bytes at s.counted
  here = parts ws bytes at s.counted s.found

  room-here : to + suc (length (flat (row_words ws) here.rows.rows)) ≤ room
  room-here = rw here.shown at s.room-left

  pub count-stands : RowsStand 1 ONE bytes at to room
  unfolding flat row_words
  count-stands = let r = room-here in (_, one-row bytes at here.number here.number_read, omega (arith, r))

  module _ {p : Place} {lent now : List ℕ} (g : RowsGiven 1 ONE bytes at lent to p now) where
    count-given : (p ≡ record { at = here.number.behind; to = to + 1 }) × (now ≡ set lent to here.number.value)
    unfolding flat row_words laid
    count-given = let e = one-row bytes at here.number here.number_read in (rw e at g.place, rw e at g.kept)

    rows-here : rows_at n ws bytes here.number.behind ≡ done here.rows
    rows-here = let v : here.number.value ≡ n = ap (λ (c : Counted). c.count) (sym here.shown) ∙ s.count in rw v at here.rows-read

    pub rows-stand : length lent ≡ room → RowsStand n ws bytes p.at p.to (length now)
    rows-stand l = let r = room-here in let k = ap length count-given.1 ∙ length-set lent to _ in rw count-given.0 (here.rows, rows-here, omega (arith, r, k, l))

    pub counted-given : {q : Place} {after : List ℕ} → RowsGiven n ws bytes p.at now p.to q after → CountedGiven ws bytes at lent to q after
    unfolding laid
    counted-given {q} {after} k =
        let c : counted_of (counted_at ws bytes at) ≡ record { count = here.number.value; rows = here.rows.rows; behind = here.rows.behind } = ap counted_of s.found ∙ here.shown in
        let f = flat (row_words ws) here.rows.rows in
        let l : to + 1 + length f ≡ to + suc (length f) = omega arith in
        let a : q ≡ record { at = here.rows.behind; to = to + 1 + length f } = rw (count-given.0, rows-here) at k.place in
        let b : after ≡ laid (set lent to here.number.value) (to + 1) f = rw (count-given.0, count-given.1, rows-here) at k.kept in
        record { place = rw c (a ∙ ap (λ t. record { at = here.rows.behind; to = t }) l); kept = rw c b }

-- an index is given by its two counts, each with its rows
module _ (bytes : List ℕ) (s : Shape) (lent : List ℕ) (h : Stands bytes s (length lent)) where
  abbrev shape : Shaped bytes s
  shape = h.0

  enough : length (counted_words ONE shape.counts) + length (counted_words ENTRY shape.entries) ≤ length lent
  enough = let l = ap length (shaped_words bytes s shape h.1).0 ∙ length-append (counted_words ONE shape.counts) (counted_words ENTRY shape.entries) in let r = h.2 in omega (arith, l, r)

  pub counts-stand : CountedStands s.providers ONE bytes s.at 0 (length lent)
  counts-stand =
      let e = enough in
      record {
        counted = shape.counts;
        found = ap (λ (s : Shape). counted_at ONE bytes s.at) shape.shown ∙ shape.counts-read;
        count = ap (λ (s : Shape). s.providers) (sym shape.shown);
        room-left = omega (arith, e);
      }

  module _ {p : Place} {now : List ℕ} (g : CountedGiven ONE bytes s.at lent 0 p now) where
    counts-here : counted_of (counted_at ONE bytes s.at) ≡ shape.counts
    counts-here = ap (λ (s : Shape). counted_of (counted_at ONE bytes s.at)) shape.shown ∙ ap counted_of shape.counts-read

    counts-given : (p ≡ record { at = shape.counts.behind; to = length (counted_words ONE shape.counts) }) × (now ≡ laid lent 0 (counted_words ONE shape.counts))
    counts-given =
        let z : 0 + length (counted_words ONE shape.counts) ≡ length (counted_words ONE shape.counts) = omega arith in
        ((rw counts-here at g.place) ∙ ap (λ t. record { at = shape.counts.behind; to = t }) z, rw counts-here at g.kept)

    pub entries-stand : CountedStands s.entries ENTRY bytes p.at p.to (length now)
    entries-stand =
        let e = enough in
        let l = ap length counts-given.1 ∙ length-laid lent 0 (counted_words ONE shape.counts) in
        let t = ap (λ (p : Place). p.to) counts-given.0 in
        record {
          counted = shape.entries;
          found = ap (λ (p : Place). counted_at ENTRY bytes p.at) counts-given.0 ∙ shape.entries-read;
          count = ap (λ (s : Shape). s.entries) (sym shape.shown);
          room-left = omega (arith, e, l, t);
        }

    pub index-given : {q : Place} {after : List ℕ} → CountedGiven ENTRY bytes p.at now p.to q after → after ≡ laid lent 0 (words_of bytes)
    index-given {q} {after} k =
        let a = counted_words ONE shape.counts in
        let b = counted_words ENTRY shape.entries in
        let c : counted_of (counted_at ENTRY bytes shape.counts.behind) ≡ shape.entries = rw shape.entries-read refl in
        let f : after ≡ laid now (length a) b = rw (counts-given.0, c) at k.kept in
        let z : length a ≡ 0 + length a = omega arith in
        laid-behind lent now after 0 a b counts-given.1 (f ∙ ap (λ n. laid now n b) z) ∙ ap (laid lent 0) (sym (shaped_words bytes s shape h.1).0)

-- what reading answers: where the bytes are no index, where the words are too few, and else
module _ (bytes lent : List ℕ) where
  pub read_refused : (r : Refusal) → index bytes ≡ refused r → AllowedRead bytes lent (Err r) lent
  unfolding reading then
  read_refused r e = record { answered = rw e refl; kept = rw e refl }

  module _ (s : Shape) (h : Shaped bytes s) where
    pub read_over : (s.end ≡ length bytes → ⊥) → AllowedRead bytes lent (Err (fault 18 s.end)) lent
    read_over o =
        let q = ap (λ (s : Shape). s.end) h.shown in
        let l = left_over bytes h.edition h.edition_read h.edition_one h.counts h.counts-read h.entries h.entries-read (λ e. o (q ∙ e)) in
        read_refused (fault 18 s.end) (l ∙ ap (λ p. refused (fault 18 p)) (sym q))

    module _ (b : s.end ≡ length bytes) where
      found : reading bytes lent ≡ with_room lent (words_of bytes)
      unfolding reading then
      found =
          let w = whole bytes h.edition h.edition_read h.edition_one h.counts h.counts-read h.entries h.entries-read (all_read bytes s h b) in
          rw w

      pub read_short : length lent < 2 + s.providers + 10 * s.entries → AllowedRead bytes lent (Err (too_small INDEX (length lent))) lent
      read_short g =
          let n = (shaped_words bytes s h b).1 in
          let e = lt-leb (length (words_of bytes)) (length lent) (omega (arith, n, g)) in
          record { answered = rw (found, e) refl; kept = rw (found, e) refl }

      pub read_given : 2 + s.providers + 10 * s.entries ≤ length lent → (after : List ℕ) → after ≡ laid lent 0 (words_of bytes)
          → AllowedRead bytes lent (Ok (2 + s.providers + 10 * s.entries)) after
      read_given g after k =
          let n = (shaped_words bytes s h b).1 in
          let e = le-leb (length (words_of bytes)) (length lent) (omega (arith, n, g)) in
          record { answered = rw (found, e) (ap Ok (sym n)); kept = rw (found, e) k }

      pub stands : 2 + s.providers + 10 * s.entries ≤ length lent → Stands bytes s (length lent)
      stands g = let n = (shaped_words bytes s h b).1 in (h, b, omega (arith, n, g))
