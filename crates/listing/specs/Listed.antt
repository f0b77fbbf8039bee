-- What the answer and the lent words of a reading tell is the listing.
use Rattle.std.specs.Prelude.{ℕ, zero, suc, ◌+◌, ◌≤◌, ◌<◌, ◌≡◌, Bool, true, false, length, get_or, set, take, drop, replicate, leb}
use Rattle.std.proofs.Math.Path.{refl, ap, sym}
use Rattle.std.proofs.Common.{ap₂, ◌∙◌, add-zero, zero-add, arith, length-set, length-take, take_all, ext_get_or, get_or-take, get_or-drop, get_or-set_same, get_or-set_other, le-leb, leb-true, leb-false}
use mathlib.Core.List.{List, [], ◌∷◌, ◌++◌, map, append-nil}
use Rattle.std.proofs.lemmas.Bool.{lt-leb}
use Rattle.blob.specs.Reading.{Outcome, done, refused}
use Rattle.blob.specs.Laid.{laid, length-laid, flat}
use Rattle.blob.proofs.Laws.{same, choose-done, then-done}
use Rattle.format.specs.Crim.{Crim}
use Rattle.format.specs.Area.{PROVIDERS, EVENTS, TEMPLATES, rows, place, width, of}
use Rattle.format.specs.Entry.{TEMPLATE_PROVIDER, TEMPLATE_OFFSET, TEMPLATE_SIZE, TEMPLATE_START, TEMPLATE_LENGTH}
use Rattle.format.specs.Lists.{lists}
use Rattle.format.specs.Lookup.{entries_from}
use Rattle.format.proofs.Theorems.Taken.{taken}
use Rattle.format.specs.Answer.{areas, lent_enough, reading, answer, held}
use Rattle.format.specs.Listing.{Piece, template_line, lines, listing, sixty_four}
use Rattle.format.proofs.Theorems.Codes.{refused-code}
use Rattle.format.proofs.Theorems.Block.{reading-crim}
use Rattle.format.specs.declared.Answer.{Answer}
use Rattle.areas.specs.Areas.{list-fits}
use Rattle.listing.specs.Rendered.{characters, newline, line, rendered}
use Rattle.listing.specs.Put.{Put, refusal_line, block_line, lines_from, lent, templates_at, accepted_text}

-- words laid from a place on leave those before it, and are found behind it
laid-before : (a : List ℕ) (p : ℕ) (ws : List ℕ) (i : ℕ) → i < p → get_or (laid a p ws) i 0 ≡ get_or a i 0
unfolding laid
laid-before a p [] i h = refl
laid-before a p (w ∷ ws) i h = laid-before (set a p w) (p + 1) ws i (omega arith) ∙ get_or-set_other a p i w 0 (λ e. omega arith)

laid-found : (a : List ℕ) (p : ℕ) (ws : List ℕ) (j : ℕ) → j < length ws → p + length ws ≤ length a → get_or (laid a p ws) (p + j) 0 ≡ get_or ws j 0
unfolding laid
laid-found a p [] j h g = absurd (omega arith)
laid-found a p (w ∷ ws) zero h g =
    ap (λ i. get_or (laid (set a p w) (p + 1) ws) i 0) (add-zero p) ∙ laid-before (set a p w) (p + 1) ws p (omega arith) ∙ get_or-set_same a p w 0 (omega arith)
laid-found a p (w ∷ ws) (suc j) h g =
    let e : p + suc j ≡ (p + 1) + j = omega arith in
    ap (λ i. get_or (laid (set a p w) (p + 1) ws) i 0) e ∙ laid-found (set a p w) (p + 1) ws j (omega arith) (simp length-set (omega arith))

-- the lines of the entries that stand in the words from a place on
lines_of : (words : List ℕ) (n at : ℕ) → lines_from words n at ≡ map template_line (entries_from (width TEMPLATES) n at words)
unfolding lines_from entries_from
lines_of words zero at = refl
lines_of words (suc n) at =
    ap₂ (λ (l : List Piece) (ls : List (List Piece)). l ∷ ls)
    (rw (word TEMPLATE_PROVIDER (omega arith), word TEMPLATE_OFFSET (omega arith), word TEMPLATE_SIZE (omega arith), word TEMPLATE_START (omega arith), word TEMPLATE_LENGTH (omega arith)) refl)
    (lines_of words n (at + width TEMPLATES))
  where
    word : (i : ℕ) → i < width TEMPLATES → get_or (take (width TEMPLATES) (drop at words)) i 0 ≡ get_or words (at + i) 0
    word i h = get_or-take (width TEMPLATES) (drop at words) i 0 h ∙ get_or-drop at words i 0

-- what is told of an accepted block, and that there is room for it
pub record Told-of (words : List ℕ) (o : Outcome Crim) : Type 0 where
  pub text : rendered (lines o) ≡ accepted_text (answer o) (held words sixty_four o)
  pub few : of TEMPLATES (answer o).counts ≤ 64

module _ (bytes words : List ℕ) where
  few-of : (c : Crim) → reading bytes words sixty_four ≡ done c → length (get_or (lists c.providers) (place TEMPLATES) []) ≤ 64
  unfolding reading
  few-of c e =
      let o = (choose-done (leb (length bytes) 16777216) _ _ c e).1 in
      let h = then-done _ _ c (choose-done (lent_enough sixty_four words) _ _ c o).1 in
      let k = same h.0 c (sym h.1 ∙ reading-crim bytes words sixty_four c e) in
      rw k at (list-fits rows sixty_four (lists h.0.providers) h.0 c h.2 (place TEMPLATES) (omega arith) (omega arith))

  pub accepted : (o : Outcome Crim) → reading bytes words sixty_four ≡ o → (answer o).code ≡ 0 → Told-of words o
  unfolding answer areas held lists flat
  accepted (done c) e z =
      let ls = lists c.providers in
      let block = line (block_line c.header.size (length (get_or ls (place PROVIDERS) [])) (length (get_or ls (place EVENTS) [])) (length (get_or ls (place TEMPLATES) []))) in
      record {
        text = ap (λ (ts : List (List Piece)). block ++ rendered ts)
            (ap (map template_line) (sym (taken bytes words sixty_four c e refl (place TEMPLATES) (omega arith))) ∙ sym (lines_of (held words sixty_four (done c)) (length (get_or ls (place TEMPLATES) [])) templates_at));
        few = few-of c e;
      }
  accepted (refused r) e z = absurd (let h = refused-code bytes words sixty_four r e in omega (arith, h, z))

refused-line : (o : Outcome Crim) → ((answer o).code ≡ 0 → ⊥) → line (refusal_line (answer o).code (answer o).place) ≡ rendered (lines o)
unfolding answer flat
refused-line (done c) h = absurd (h refl)
refused-line (refused r) h = sym (append-nil _)

-- the listing of bytes that are too long
pub too_long : (bytes : List ℕ) → 65536 < length bytes → characters "too long" ++ (newline ∷ []) ≡ rendered (listing bytes)
unfolding listing flat line
too_long bytes h = rw (lt-leb (length bytes) 65536 h) refl

-- the listing of bytes that are not, by the answer and the words of their reading
module _ (bytes : List ℕ) (h : length bytes ≤ 65536) (a : Answer) where
  abbrev found_in : Outcome Crim
  found_in = reading bytes (replicate lent 0) sixty_four

  listed : listing bytes ≡ lines found_in
  unfolding listing areas
  listed = rw (le-leb (length bytes) 65536 h) refl

  module _ (e : a ≡ answer found_in) where
    pub listed-refused : (a.code ≡ 0 → ⊥) → line (refusal_line a.code a.place) ≡ rendered (listing bytes)
    listed-refused z = ap (λ b. line (refusal_line b.code b.place)) e ∙ refused-line found_in (rw e at z) ∙ ap rendered (sym listed)

    pub listed-accepted : (words : List ℕ) → words ≡ held (replicate lent 0) sixty_four found_in → a.code ≡ 0
        → (of TEMPLATES a.counts ≤ 64) × (accepted_text a words ≡ rendered (listing bytes))
    listed-accepted words g z =
        let t = accepted bytes (replicate lent 0) found_in refl (rw e at z) in
        (rw e t.few, rw (e, g) (sym t.text) ∙ ap rendered (sym listed))

-- The program reads no more than 65,537 bytes: what is behind them changes nothing.
pub read_enough : (bytes : List ℕ) → rendered (listing (take 65537 bytes)) ≡ rendered (listing bytes)
read_enough bytes = go (leb (length bytes) 65536) refl
  where
    go : (t : Bool) → leb (length bytes) 65536 ≡ t → rendered (listing (take 65537 bytes)) ≡ rendered (listing bytes)
    go true e = let h = leb-true (length bytes) 65536 e in ap (λ (l : List ℕ). rendered (listing l)) (take_all 65537 bytes (omega arith))
    go false e =
        let h = leb-false (length bytes) 65536 e in
        sym (too_long (take 65537 bytes) (simp length-take (omega arith))) ∙ too_long bytes h

-- It writes the lent bytes up to where the listing ends: they are the listing.
pub written : (before after bytes : List ℕ) (end : ℕ) → Put before 0 bytes end after → end ≤ length before → take end after ≡ bytes
written before after bytes end p h =
    let n : end ≡ length bytes = omega (arith, p.ends) in
    let m : length after ≡ length before = ap length p.holds ∙ length-laid before 0 bytes in
    let w : length (take end after) ≡ length bytes = simp length-take (omega arith) in
    ext_get_or 0 (take end after) bytes w (λ j l.
    get_or-take end after j 0 (omega arith) ∙ ap (λ (x : List ℕ). get_or x j 0) p.holds
    ∙ ap (λ i. get_or (laid before 0 bytes) i 0) (sym (zero-add j)) ∙ laid-found before 0 bytes j (omega arith) (omega arith))
