use mathlib.Core.Path.{ap, sym, ◌∙◌}
use lib.ListN.{take, drop}
use Rattle.format.specs.Area.{EVENTS, width}
use Rattle.lists.specs.Found.{found}
use Rattle.lookup.specs.Given.{number-some, number-below}
use native.Mathlib.Omega.{arith}
use Rattle.lookup.proofs.fresh.Goals as goal

pub bounds-marks-n : goal.bounds-marks-n
bounds-marks-n c =
    let e = number-some c.args.words.now c.args.templates c.args.key.now c.args.at c.requires.events_in_bounds.1 (sym c.same.ensures ∙ c.if-not-same.false) c.if-offset-eq0.false in
    omega (arith, number-below c.args.words.now c.args.templates c.args.key.now (take (width EVENTS) (drop c.args.at c.args.words.now)) _ (ap found e ∙ sym c.at_offset.ensures ∙ c.in_ok-n.was))
