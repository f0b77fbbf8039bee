-- What is laid into the part is laid into the whole.
use mathlib.Core.Path.{refl, ap, sym}
use native.Mathlib.Omega.{arith}
use lib.ListN.{length-take, length-drop}
use Rattle.blob.specs.Laid.{laid, laid-area}
use Rattle.areas.proofs.fill_area.Goals as goal

pub returns-then-need-eq0 : goal.returns-then-need-eq0
unfolding laid
returns-then-need-eq0 c = record { value = refl; words_after = sym (ap (laid _ _) (c.requires.b_value_2 c.if-need-eq0.true)) }

pub fill-requires : goal.fill-requires
fill-requires c =
    record { n_in_bounds = c.requires.n_in_bounds; b_value = c.requires.b_value; room = record { fits = simp (length-take, length-drop) (omega (arith, c.requires.size_in_bounds, c.requires.b_len_bound.0)); few = c.requires.b_len_bound.1 } }

pub returns : goal.returns
returns c =
    record { value = refl; words_after = laid-area _ _ _ _ _ (omega arith) (omega (arith, c.requires.size_in_bounds)) (omega (arith, c.requires.b_len_bound.0)) c.fill.ensures }
