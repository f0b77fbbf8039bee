-- The counts decide first, then the items.
use Rattle.std.specs.Prelude.{Err}
use mathlib.Core.Path.{◌≡◌, ap, sym, ◌∙◌}
use mathlib.Core.Bool.{true, not, ◌||◌}
use mathlib.Core.Logic.{◌⊎◌, ⊎_elim}
use Rattle.std.proofs.Common.{ℕ}
use lib.Dec.{eqb}
use borrow.Author.Tests.{eq-eqb, ne_eqb}
use borrow.Author.Rules.{rules}
use Rattle.blob.specs.Reading.{then}
use Rattle.blob.proofs.Laws.{run_bind, run-number, run-demand, handed_on}
use Rattle.words.specs.Guid.{guid-found}
use Rattle.item.specs.Items.{no_items}
use Rattle.template.specs.Temp.{items-inside, fields_refused, fields_items}
use Rattle.template.proofs.check_fields.Goals as goal

-- no names without descriptors
counted : (d n : ℕ) → ((d ≡ 0) × (n ≡ 0)) ⊎ (d ≡ 0 → ⊥) → (not (eqb d 0) || eqb n 0) ≡ true
counted d n h = ⊎_elim (λ w. rw (eq-eqb d 0 w.0, eq-eqb n 0 w.1)) (λ w. rw (ne_eqb d 0 w)) h

pub returns-in_err-items_at : goal.returns-in_err-items_at
returns-in_err-items_at c =
    handed_on c.from_residual.ensures.1 (fields_refused _ _ _ _ _ _ _ c.word-descriptors.ensures c.word-names.ensures c.word-offset.ensures c.items_of.ensures (counted _ _ c.else-descriptors-eq0.either) _
    (c.in_err-items_at.ensures))

pub returns-then-descriptors-eq0-2 : goal.returns-then-descriptors-eq0-2
returns-then-descriptors-eq0-2 c =
    let v = sym c.in_ok-items_at.ensures in
    let x = items-inside _ _ _ _ _ _ _ c.word-descriptors.ensures c.word-names.ensures c.word-offset.ensures c.items_of.ensures v in
    sym (fields_items _ _ _ _ _ _ _ c.word-descriptors.ensures c.word-names.ensures c.word-offset.ensures c.items_of.ensures (counted _ _ c.else-descriptors-eq0.either) v ∙ no_items _ _ _ _ _ c.if-descriptors-eq0-2.true x)

pub check-requires : goal.check-requires
check-requires c =
    let x = items-inside _ _ _ _ _ _ _ c.word-descriptors.ensures c.word-names.ensures c.word-offset.ensures c.items_of.ensures (sym c.in_ok-items_at.ensures) in
    search rules

pub returns : goal.returns
returns c =
    c.check.ensures
    ∙ sym (fields_items _ _ _ _ _ _ _ c.word-descriptors.ensures c.word-names.ensures c.word-offset.ensures c.items_of.ensures (counted _ _ c.else-descriptors-eq0.either) (sym c.in_ok-items_at.ensures))

pub returns-then-names-ne0 : goal.returns-then-names-ne0
unfolding then
returns-then-names-ne0 c =
    simp (
      run-number,
      run_bind,
      guid-found,
      run-demand,
      sym c.word-descriptors.ensures,
      sym c.word-names.ensures,
      eq-eqb _ _ c.if-descriptors-eq0.true,
      ne_eqb _ _ c.if-names-ne0.true,
    ) (ap Err c.count_out.ensures)
