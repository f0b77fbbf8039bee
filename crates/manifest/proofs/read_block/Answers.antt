-- The providers, then the lists.
use mathlib.Core.Path.{refl, ap, sym, ◌∙◌}
use Rattle.std.specs.Prelude.{Err}
use Rattle.blob.specs.Reading.{run, verdict, values}
use Rattle.blob.proofs.Laws.{answer-refused, handed_on, result_found, result_refused}
use Rattle.format.specs.Area.{none}
use Rattle.format.specs.Answer.{held}
use Rattle.format.specs.Crim.{providers_of}
use Rattle.format.specs.Steps.Needs.{needs_all}
use Rattle.manifest.specs.Read.{array-done, reading-refused}
use Rattle.manifest.proofs.read_block.Goals as goal

pub returns-in_err-needs : goal.returns-in_err-needs
unfolding held
returns-in_err-needs c =
    let x = reading-refused c.args.h c.args.b.now c.args.capacities _ (result_refused _ (run (providers_of c.args.h) c.args.b.now) _ c.in_err-needs.ensures) in
    record { value = handed_on c.from_residual.ensures.1 (answer-refused _ Err _ _ _ refl x); words_after = sym (ap (held _ _) x) }

pub store-requires : goal.store-requires
store-requires c =
    let x = result_found _ (run (providers_of c.args.h) c.args.b.now) _ c.in_ok-needs.ensures in
    let y = array-done c.args.h c.args.b.now x.0 x.1 in
    record { count_in_bounds = (y.0, c.requires.1); b_value = ap verdict y.1; needs_value = (x.2 ∙ ap (λ z. needs_all none (values z)) (sym y.1), c.requires.2) }
