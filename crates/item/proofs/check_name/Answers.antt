-- An offset that is 0 or not before the TEMP passes the definition's test, and the name decides.
use Rattle.std.specs.Prelude.{Err}
use mathlib.Core.Path.{◌≡◌, refl, ap, sym, ◌∙◌}
use mathlib.Core.Bool.{Bool, true, false, ◌||◌}
use lib.Dec.{leb, eqb}
use borrow.Author.Tests.{ne_eqb, eq-eqb, le-leb, lt-leb}
use Rattle.blob.specs.Reading.{verdict}
use Rattle.blob.proofs.Laws.{run_holds, run-fails}
use Rattle.format.specs.Item.{item_name_at}
use Rattle.item.proofs.check_name.Goals as goal
use Rattle.item.proofs.check_name.Goals.{then-offset-temp+else-offset-ne0, else-offset-temp}

from_or : (a b : Bool) → b ≡ true → (a || b) ≡ true
from_or true b h = refl
from_or false b h = h

pub returns-then-offset-ne0 : goal.returns-then-offset-ne0
unfolding item_name_at
returns-then-offset-ne0 c =
    ap Err c.offset_out.ensures ∙ sym (ap verdict (run-fails _ _ _ _ (rw (ne_eqb _ _ c.if-offset-ne0.true) (lt-leb _ _ c.if-offset-temp.true))))

pub returns : goal.returns
unfolding item_name_at
returns c =
    let here : (eqb c.args.offset 0 || leb c.args.temp c.args.offset) ≡ true =
    elim c.if-offset-temp.branch [
      | then-offset-temp+else-offset-ne0 w ↦ rw (eq-eqb _ _ w.if-offset-ne0.false)
      | else-offset-temp w ↦ from_or (eqb c.args.offset 0) (leb c.args.temp c.args.offset) (le-leb _ _ w.if-offset-temp.false)
    ] in
    c.check.ensures ∙ sym (ap verdict (run_holds _ _ _ _ here))
