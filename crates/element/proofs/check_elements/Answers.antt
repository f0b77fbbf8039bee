-- What is left decides: the answer for the elements that are left, with the counts so far, is that for all, and their descriptors are
-- fine.
use mathlib.Core.Path.{refl, sym, ◌∙◌}
use native.Mathlib.Omega.{arith}
use Rattle.blob.proofs.Laws.{handed_on, many_next, one_on, refused-value}
use Rattle.format.specs.Definition.{step}
use Rattle.format.specs.Provider.{descriptor_at}
use Rattle.format.proofs.Theorems.Kinds.{one_of-eight}
use Rattle.element.specs.Elements.{signature-fits, next-described}
use Rattle.element.specs.Counted.{read_none, is_refused, as_unknown, read_stop, read_unknown, read_table}
use Rattle.element.proofs.check_elements.Goals as goal
use Rattle.element.proofs.check_elements.Goals.{in-None+in_ok-check_unknown-in-None, in-Some+in_ok-entries-in-Some}

pub returns-in_err-check_unknown-in-None : goal.returns-in_err-check_unknown-in-None
returns-in_err-check_unknown-in-None c =
    handed_on c.from_residual-in_err-check_unknown-in-None.ensures.1
    (sym (c.loop-i.invariant.2
    ∙ read_stop _ _ _ (omega arith) _ c.descriptor_of-d.ensures _ c.in-None.ensures _ _ _ _
    (as_unknown _ _ _ refl ∙ refused-value _ _ c.in_err-check_unknown-in-None.ensures) c.loop-i.invariant.1))

pub returns-in_err-entries-in-Some : goal.returns-in_err-entries-in-Some
returns-in_err-entries-in-Some c =
    handed_on c.from_residual.ensures.1
    (sym (c.loop-i.invariant.2
    ∙ read_stop _ _ _ (omega arith) _ c.descriptor_of-d.ensures _ c.in-Some.ensures _ _ _ _
    (is_refused _ _ c.in_err-entries-in-Some.ensures) c.loop-i.invariant.1))

pub returns : goal.returns
returns c = sym (c.loop-i.invariant.2 ∙ read_none _ _ _ _ _ _ (omega arith))

pub descriptor_of-d-requires-clause-b_value : goal.descriptor_of-d-requires-clause-b_value
descriptor_of-d-requires-clause-b_value c = next-described _ _ _ (omega arith) c.loop-i.invariant.1

pub check_unknown-requires : goal.check_unknown-requires
check_unknown-requires c = let f = signature-fits _ _ _ c.descriptor_of-d.ensures in (omega arith, omega arith)

pub loop-i-preserved : goal.loop-i-preserved
loop-i-preserved c =
    let found = c.descriptor_of-d.ensures in
    let e = one_on c.args.n c.loop-i.i c.args.start 8 in (
      elim c.match-kind_of.branch [ in-None+in_ok-check_unknown-in-None w ↦ omega arith | in-Some+in_ok-entries-in-Some w ↦ omega arith ],
      sym (many_next descriptor_at (step 8) _ _ _ _ _ _ (omega arith) found e.1) ∙ c.loop-i.invariant.1,
      c.loop-i.invariant.2
          ∙ elim c.match-kind_of.branch [
            | in-None+in_ok-check_unknown-in-None w ↦
                rw (w.unknown-is, w.entries-is, w.places-is, ← e.0, ← e.1) (read_unknown _ _ _ (omega arith) _ found _ w.in-None.ensures _ _ _ refl (sym w.in_ok-check_unknown-in-None.ensures))
            | in-Some+in_ok-entries-in-Some w ↦
                rw (w.unknown-is, w.entries-is, w.places-is, w.number-i.ensures.0, ← e.0, ← e.1) (read_table _ _ _ (omega arith) _ found _ w.in-Some.ensures _ _ _ (one_of-eight _).0 _ w.in_ok-entries-in-Some.ensures)
          ],
    )
