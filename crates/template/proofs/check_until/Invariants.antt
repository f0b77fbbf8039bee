-- The invariant: what is left decides. The answer for the TEMPs that are left, with the items so far, is that for all.
use Prim.Native.Nat.{◌≤◌}
use mathlib.Core.Path.{◌≡◌}
use lib.ListN.{length}
use Rattle.blob.specs.Reading.{run, many}
use Rattle.format.specs.Region.{until}
use Rattle.format.specs.Template.{template_at, next}
use Rattle.format.specs.Steps.Needs.{templates_read}
use Rattle.format.proofs.Theorems.Counting.{counted_from}
use Rattle.template.specs.Templates.{turns}
use Rattle.template.proofs.check_until.Given as goal

abbrev pub invariant-loop-left : goal.invariant-loop-left
invariant-loop-left l =
    (l.at ≤ l.end)
    × (l.items ≤ 65537)
    × (templates_read (run (many (template_at (until l.end)) next l.n l.start) l.b) ≡ counted_from (λ t. length t.items) l.items (run (many (template_at (until l.end)) next l.left l.at) l.b))

abbrev pub decreases-loop-left : goal.decreases-loop-left
decreases-loop-left l = turns l.b l.at l.left l.same
