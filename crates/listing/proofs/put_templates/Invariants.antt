-- The lines that are left, put behind those that are there, are all of them.
use Rattle.std.proofs.Common.{ℕ, ◌+◌, ◌*◌, ◌-◌, ◌≤◌, List}
use Rattle.format.specs.Area.{TEMPLATES, width}
use Rattle.listing.specs.Rendered.{rendered}
use Rattle.listing.specs.Put.{Put, templates_at, lines_from}
use Rattle.listing.proofs.put_templates.Given as goal

abbrev pub invariant-loop-i : goal.invariant-loop-i
invariant-loop-i l =
    (l.to ≤ l.at + 135 * l.i)
    × ((end : ℕ) (after : List ℕ) → Put l.out l.to (rendered (lines_from l.words (l.n - l.i) (templates_at + width TEMPLATES * l.i))) end after → Put l.initial.out l.at (rendered (lines_from l.words l.n templates_at)) end after)
