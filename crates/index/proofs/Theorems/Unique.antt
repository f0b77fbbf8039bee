-- "No two byte strings read alike" (request 05): bytes that are an index are what writing it gives; and the words that a read gives tell
-- the index, and so the bytes.
use Rattle.std.specs.Prelude.{ℕ, ◌/◌, ◌%◌, ◌<◌, ◌≡◌, refl, Bool, true, false, List, [], ◌∷◌, ◌++◌, length, take, drop, leb, eqb}
use Rattle.std.proofs.Common.{ap, ap₂, sym, ◌∙◌, append_assoc, append-nil, arith, take_at, drop_at, eqb-true}
use Rattle.std.proofs.Math.Seq.{take-append_seam, drop-append_seam, drop-length}
use Rattle.blob.specs.Reading.{Outcome, done, choose, then}
use Rattle.blob.proofs.Laws.{same, choose-done, then-done}
use Rattle.blob.specs.Laid.{flat}
use Rattle.blob.specs.Places.{Each}
use Rattle.format.proofs.Theorems.Known.{All}
use Rattle.number.specs.Number.{WORD, LONG, number_at}
use Rattle.index.specs.Index.{EDITION, ENTRY, ONE, Index, written, rows_at, index, number_words, row_words, words, with_room, reading}
use Rattle.index.proofs.Theorems.Rows.{Within, Lies, lies_then, number-found, rows-found, words-found}
use Rattle.index.proofs.Theorems.Back.{Writable, written-parts}

-- bytes up to their end are all of them
all-lies : (bytes xs : List ℕ) (behind : ℕ) → Lies bytes 0 xs behind → behind ≡ length bytes → bytes ≡ xs
all-lies bytes xs behind l e = l.shown ∙ rw (e, drop-length) (append-nil xs)

-- an accepted outcome goes by an accepted one before it
through : {A B P : Type 0} (o : Outcome A) {f : A → Outcome B} {b : B} → then o f ≡ done b → ((a : A) → o ≡ done a → f a ≡ done b → P) → P
through o {f} {b} e k = let t = then-done o f b e in k t.0 t.1 t.2

pub was_written : (bytes : List ℕ) (i : Index) → Each (λ b. b < 256) bytes → index bytes ≡ done i → Writable i × (bytes ≡ written i)
unfolding index
was_written bytes i b e =
    through (number_at WORD bytes 0) e λ edition ea e.
    let first = choose-done (eqb edition.value EDITION) _ _ i e in
    through (number_at WORD bytes edition.behind) first.1 λ providers ep e.
    through (rows_at providers.value ONE bytes providers.behind) e λ counts ec e.
    through (number_at WORD bytes counts.behind) e λ events en e.
    through (rows_at events.value ENTRY bytes events.behind) e λ entries er e.
    let last = choose-done (eqb entries.behind (length bytes)) _ _ i e in
    let a = number-found bytes WORD 0 edition (omega arith) b ea in
    let p = number-found bytes WORD edition.behind providers (omega arith) b ep in
    let c = words-found bytes providers.value providers.behind counts b ec in
    let n = number-found bytes WORD counts.behind events (omega arith) b en in
    let r = rows-found bytes events.value ENTRY events.behind entries (omega arith) b er in
    let s = eqb-true edition.value EDITION first.0 in
    let found : Index = record { counts = flat (λ (r : List ℕ). r) counts.rows; entries = entries.rows } in
    rw (← same found i last.1) (
      record { providers = rw c.0 p.0; counts = c.1; events = rw r.0 n.0; entries = r.1 },
      all-lies bytes _ entries.behind
          (rw (written-parts found, c.0, r.0, ← s) (lies_then a.1 (lies_then p.1 (lies_then c.2 (lies_then n.1 r.2)))))
          (eqb-true entries.behind (length bytes) last.0),
    )

-- The words of an index, part by part.
number-told : (w n m : ℕ) (s t : List ℕ) → number_words w n ++ s ≡ number_words w m ++ t → (n ≡ m) × (s ≡ t)
number-told w n m s t = go (eqb w LONG)
  where
    go : (b : Bool) → choose b (n % 4294967296 ∷ n / 4294967296 ∷ []) (n ∷ []) ++ s ≡ choose b (m % 4294967296 ∷ m / 4294967296 ∷ []) (m ∷ []) ++ t → (n ≡ m) × (s ≡ t)
    go true e =
        let low : n % 4294967296 ≡ m % 4294967296 = cc in
        let high : n / 4294967296 ≡ m / 4294967296 = cc in
        (omega arith, cc)
    go false e = (cc, cc)

row_told : (ws x y s t : List ℕ) → Within ws x → Within ws y → row_words ws x ++ s ≡ row_words ws y ++ t → (x ≡ y) × (s ≡ t)
unfolding row_words
row_told [] [] [] s t g h e = (refl, e)
row_told [] [] (m ∷ y) s t g h e = absurd h
row_told [] (n ∷ x) y s t g h e = absurd g
row_told (w ∷ ws) [] y s t g h e = absurd g
row_told (w ∷ ws) (n ∷ x) [] s t g h e = absurd h
row_told (w ∷ ws) (n ∷ x) (m ∷ y) s t g h e =
    let a = number-told w n m (row_words ws x ++ s) (row_words ws y ++ t) (sym (append_assoc (number_words w n) _ s) ∙ e ∙ append_assoc (number_words w m) _ t) in
    let b = row_told ws x y s t g.1 h.1 a.1 in
    (ap₂ (λ (k : ℕ) (l : List ℕ). k ∷ l) a.0 b.0, b.1)

rows_told : (ws : List ℕ) (xs ys : List (List ℕ)) → All (Within ws) xs → All (Within ws) ys → length xs ≡ length ys → flat (row_words ws) xs ≡ flat (row_words ws) ys → xs ≡ ys
unfolding flat
rows_told ws [] [] g h n e = refl
rows_told ws [] (y ∷ ys) g h n e = absurd (omega arith)
rows_told ws (x ∷ xs) [] g h n e = absurd (omega arith)
rows_told ws (x ∷ xs) (y ∷ ys) g h n e =
    let r = row_told ws x y _ _ g.0 h.0 e in
    ap₂ (λ (k : List ℕ) (l : List (List ℕ)). k ∷ l) r.0 (rows_told ws xs ys g.1 h.1 (omega arith) r.1)

-- runs of one length, whatever follows
run-told : (xs ys s t : List ℕ) → length xs ≡ length ys → xs ++ s ≡ ys ++ t → (xs ≡ ys) × (s ≡ t)
run-told xs ys s t n e = (
  sym (take-append_seam xs s) ∙ ap (take (length xs)) e ∙ take_at ys t (length xs) (sym n),
  sym (drop-append_seam xs s) ∙ ap (drop (length xs)) e ∙ drop_at ys t (length xs) (sym n),
)

-- the words tell the index: the provider count stands first, so that both split alike
abbrev entry_words : Index → List ℕ
entry_words i = length i.entries ∷ flat (row_words ENTRY) i.entries

pub words-tell : (a b : Index) → Writable a → Writable b → words a ≡ words b → a ≡ b
words-tell a b v w e =
    let r = run-told a.counts b.counts (entry_words a) (entry_words b) (cc) (cc) in
    let d = rows_told ENTRY a.entries b.entries v.entries w.entries (cc r.1) (cc r.1) in
    ap₂ {C = Index} (λ (c : List ℕ) (d : List (List ℕ)). record { counts = c; entries = d }) r.0 d

pub one-string : (s t : List ℕ) (a b : Index) → Each (λ b. b < 256) s → Each (λ b. b < 256) t → index s ≡ done a → index t ≡ done b → words a ≡ words b → s ≡ t
one-string s t a b x y e g q =
    let v = was_written s a x e in
    let w = was_written t b y g in
    v.1 ∙ ap written (words-tell a b v.0 w.0 q) ∙ sym w.1

-- so it is for whoever lends the room for the words
pub one-reading : (s t lent room given : List ℕ) → Each (λ b. b < 256) s → Each (λ b. b < 256) t → reading s lent ≡ done given → reading t room ≡ done given → s ≡ t
unfolding reading
one-reading s t lent room given x y e g =
    let a = then-done (index s) _ given e in
    let b = then-done (index t) _ given g in
    one-string s t a.0 b.0 x y a.1 b.1 (given-words a.0 lent a.2 ∙ sym (given-words b.0 room b.2))
  where
    given-words : (i : Index) (lent : List ℕ) → with_room lent (words i) ≡ done given → words i ≡ given
    given-words i lent e = same _ _ (choose-done (leb (length (words i)) (length lent)) _ _ given e).1
