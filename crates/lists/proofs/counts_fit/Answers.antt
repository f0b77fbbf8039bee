-- Each list has room for its count.
use mathlib.Core.Path.{ap, ◌∙◌}
use Rattle.std.specs.Prelude.{is_ok}
use Rattle.format.specs.Area.{rows}
use Rattle.lists.specs.Fit.{room_fits}
use native.Mathlib.Omega.{arith}
use Rattle.lists.proofs.counts_fit.Goals as goal

pub returns : goal.returns
returns c = c.is_ok.ensures.value ∙ ap is_ok c.room.ensures ∙ room_fits rows c.args.c c.args.capacities (omega arith) (omega arith)
