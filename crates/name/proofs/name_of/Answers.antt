-- What is known to be fine has a size that is right, and is its text.
use mathlib.Core.Path.{refl, ap, sym, ◌∙◌}
use Rattle.blob.specs.Reading.{run, done, verdict}
use Rattle.format.specs.Name.{name_at}
use Rattle.name.specs.Text.{texted-fine}
use Rattle.name.specs.Sized.{sized-fine}
use native.Mathlib.Omega.{arith}
use Rattle.name.proofs.name_of.Goals as goal

pub returns-then-offset-eq0 : goal.returns-then-offset-eq0
unfolding run name_at
returns-then-offset-eq0 c = rw c.if-offset-eq0.true (ap done (sym c.absent.ensures))

pub word-requires : goal.word-requires
word-requires c =
    let z = sized-fine _ _ _ _ _ refl c.if-offset-eq0.false c.requires.b_value in
    omega arith

pub overflow_sub-n : goal.overflow_sub-n
overflow_sub-n c = (sized-fine _ _ _ _ _ c.word.ensures c.if-offset-eq0.false c.requires.b_value).0

pub units-requires : goal.units-requires
units-requires c =
    let z = sized-fine _ _ _ _ _ c.word.ensures c.if-offset-eq0.false c.requires.b_value in
    (omega arith, omega arith)

pub unwrap-found-requires : goal.unwrap-found-requires
unwrap-found-requires c =
    let v = c.requires.b_value in
    let found = (sized-fine _ _ _ _ _ c.word.ensures c.if-offset-eq0.false v).2 ∙ c.units.ensures in
    texted-fine _ _ _ _ (sym (ap verdict found) ∙ v)

pub overflow_add-result : goal.overflow_add-result
overflow_add-result c =
    let z = sized-fine _ _ _ _ _ c.word.ensures c.if-offset-eq0.false c.requires.b_value in
    omega arith

pub returns : goal.returns
returns c =
    (sized-fine _ _ _ _ _ c.word.ensures c.if-offset-eq0.false c.requires.b_value).2 ∙ c.units.ensures ∙ rw c.unwrap-found.ensures
