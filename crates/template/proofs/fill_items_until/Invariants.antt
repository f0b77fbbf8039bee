-- The invariant: what is left decides. The items of the rest, laid from here, make the area what it shall be, and the rest is fine.
use Rattle.std.specs.Prelude.{Ok}
use Prim.Native.Nat.{◌+◌, ◌-◌, ◌*◌, ◌≤◌}
use mathlib.Core.Path.{◌≡◌}
use Rattle.blob.specs.Reading.{run, many, verdict, values}
use Rattle.blob.specs.Laid.{laid, flat}
use Rattle.format.specs.Area.{ITEMS, width}
use Rattle.format.specs.Region.{until}
use Rattle.format.specs.Template.{template_at, next}
use Rattle.format.specs.Lists.{item_list}
use Rattle.format.specs.Steps.Needs.{item_count}
use Rattle.template.proofs.fill_items_until.Given as goal

abbrev pub invariant-loop-number : goal.invariant-loop-number
invariant-loop-number l =
    (l.at ≤ l.end)
    × (l.to + width ITEMS * item_count (values (run (many (template_at (until l.end)) next (l.number-end - l.number) l.at) l.b)) ≡ width ITEMS * item_count (values (run (many (template_at (until l.end)) next l.n l.start) l.b)))
    × (verdict (run (many (template_at (until l.end)) next (l.number-end - l.number) l.at) l.b) ≡ Ok tt)
    × (laid l.initial.area 0 (flat (λ e. e) (item_list l.first (values (run (many (template_at (until l.end)) next l.n l.start) l.b))))
    ≡ laid l.area l.to (flat (λ e. e) (item_list l.number (values (run (many (template_at (until l.end)) next (l.number-end - l.number) l.at) l.b)))))
