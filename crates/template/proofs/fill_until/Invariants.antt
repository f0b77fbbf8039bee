-- The invariant: what is left decides. The rest, laid from here, makes the area what it shall be, and the rest is fine.
use Rattle.std.specs.Prelude.{Ok}
use Prim.Native.Nat.{◌+◌, ◌*◌, ◌≤◌}
use mathlib.Core.Path.{◌≡◌}
use lib.ListN.{length}
use Rattle.blob.specs.Reading.{run, many, verdict}
use Rattle.blob.proofs.Laws.{rest}
use Rattle.format.specs.Area.{TEMPLATES, width}
use Rattle.format.specs.Region.{until}
use Rattle.format.specs.Template.{template_at, next}
use Rattle.format.specs.Lists.{template_words}
use Rattle.template.specs.Templates.{turns}
use Rattle.template.proofs.fill_until.Given as goal

abbrev pub invariant-loop-left : goal.invariant-loop-left
invariant-loop-left l =
    (l.at ≤ l.end)
    × (l.to + width TEMPLATES * l.left ≤ length l.area)
    × (length l.area ≡ length l.initial.area)
    × (verdict (run (many (template_at (until l.end)) next l.left l.at) l.b) ≡ Ok tt)
    × (rest (template_at (until l.end)) next (template_words l.provider) l.b l.initial.area l.n l.start 0 ≡ rest (template_at (until l.end)) next (template_words l.provider) l.b l.area l.left l.at l.to)

abbrev pub decreases-loop-left : goal.decreases-loop-left
decreases-loop-left l = turns l.b l.at l.left l.same
