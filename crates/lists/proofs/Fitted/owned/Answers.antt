-- By the table that is found.
use mathlib.Core.Path.{ap, sym, ◌∙◌, subst}
use mathlib.Core.List.{[], ◌∷◌}
use lib.ListN.{take}
use Rattle.format.specs.Area.{TABLES, rows, place, width}
use Rattle.format.specs.Kinds.{number}
use Rattle.format.specs.Entry.{TABLE_PROVIDER}
use Rattle.format.specs.Answer.{areas}
use Rattle.format.specs.Lookup.{position}
use Rattle.lists.specs.Found.{entries, few, found, has}
use Rattle.lists.specs.Fit.{inside, whole-few}
use Rattle.lists.specs.Tables.{table_none, table-found}
use native.Mathlib.Omega.{arith}
use Rattle.lists.proofs.Fitted.owned.Goals as goal

pub returns-in_default : goal.returns-in_default
returns-in_default c =
    let e = ap (λ r. found (position (has TABLE_PROVIDER (c.args.provider ∷ number c.args.kind ∷ [])) r.first (entries (width TABLES) r c.args.self.now.lists.words.now))) (sym c.run_of-tables.ensures) ∙ sym (rw c.number.ensures.0 at c.find.ensures) ∙ c.in_default.is in
    rw (c.area_at-start.ensures.0 ∙ ap (λ l. areas rows (take (place l) c.args.self.now.lists.capacities)) c.list_of.ensures, table_none c.args.self.now.lists.words.now c.args.self.now.lists.capacities c.args.self.now.lists.counts c.args.self.now.fits c.args.provider (number c.args.kind) e)

pub entry_at-requires : goal.entry_at-requires
entry_at-requires c =
    let e = ap (λ r. found (position (has TABLE_PROVIDER (c.args.provider ∷ number c.args.kind ∷ [])) r.first (entries (width TABLES) r c.args.self.now.lists.words.now))) (sym c.run_of-tables.ensures) ∙ sym (rw c.number.ensures.0 at c.find.ensures) ∙ c.in-Some.is in
    omega (arith, ap (λ r. r.start) c.run_of-tables.ensures, (inside c.args.self.now.lists.words.now c.args.self.now.lists.capacities c.args.self.now.lists.counts c.args.self.now.fits (place TABLES)).0, (table-found c.args.self.now.lists.words.now c.args.self.now.lists.capacities c.args.self.now.lists.counts c.args.self.now.fits c.args.provider (number c.args.kind) _ e).1)

pub range_at-requires : goal.range_at-requires
range_at-requires c =
    let e = ap (λ r. found (position (has TABLE_PROVIDER (c.args.provider ∷ number c.args.kind ∷ [])) r.first (entries (width TABLES) r c.args.self.now.lists.words.now))) (sym c.run_of-tables.ensures) ∙ sym (rw c.number.ensures.0 at c.find.ensures) ∙ c.in-Some.is in
    omega (arith, c.entry_at.ensures, ap (λ r. r.start) c.run_of-tables.ensures, (inside c.args.self.now.lists.words.now c.args.self.now.lists.capacities c.args.self.now.lists.counts c.args.self.now.fits (place TABLES)).0, (table-found c.args.self.now.lists.words.now c.args.self.now.lists.capacities c.args.self.now.lists.counts c.args.self.now.fits c.args.provider (number c.args.kind) _ e).1)

pub returns : goal.returns
returns c =
    let e = ap (λ r. found (position (has TABLE_PROVIDER (c.args.provider ∷ number c.args.kind ∷ [])) r.first (entries (width TABLES) r c.args.self.now.lists.words.now))) (sym c.run_of-tables.ensures) ∙ sym (rw c.number.ensures.0 at c.find.ensures) ∙ c.in-Some.is in
    c.range_at.ensures
    ∙ rw (c.entry_at.ensures, ap (λ r. r.start) c.run_of-tables.ensures, c.area_at-start.ensures.0 ∙ ap (λ l. areas rows (take (place l) c.args.self.now.lists.capacities)) c.list_of.ensures, (table-found c.args.self.now.lists.words.now c.args.self.now.lists.capacities c.args.self.now.lists.counts c.args.self.now.fits c.args.provider (number c.args.kind) _ e).0)

pub find-requires-clause-few : goal.find-requires-clause-few
find-requires-clause-few c =
    subst (λ r. few (width TABLES) r c.args.self.now.lists.words.now) (sym c.run_of-tables.ensures) (whole-few c.args.self.now.lists.words.now c.args.self.now.lists.capacities c.args.self.now.lists.counts c.args.self.now.fits (place TABLES))
