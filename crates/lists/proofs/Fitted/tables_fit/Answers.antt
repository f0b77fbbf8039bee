-- The invariant: what is left decides.
use Prim.Native.Nat.{◌+◌, ◌*◌, ◌≤◌}
use lib.ListN.{length}
use mathlib.Core.Path.{ap, ap₂, sym, ◌∙◌, subst}
use mathlib.Core.List.{List}
use Rattle.format.specs.Area.{TABLES, TEMPLATES, place, width}
use Rattle.format.specs.Lists.{Entry}
use Rattle.format.specs.Lookup.{entries_from, entries_of, every, table_fits, table_owns}
use Rattle.lists.specs.declared.Run.{Run}
use Rattle.lists.specs.Entries.{rest_all, one_in}
use Rattle.lists.specs.Fit.{inside, whole-few, whole-entries}
use Rattle.lists.specs.Found.{entries, few, table_holds}
use Rattle.lists.specs.Search.{every-next, every_stop, every_all, every-both}
use Rattle.lists.proofs.Fitted.tables_fit.Goals as goal

pub loop-i-init : goal.loop-i-init
loop-i-init c =
    let l = c.args.self.now.lists in
    let ts = entries_of l.words.now l.capacities l.counts TEMPLATES in
    let es = entries_of l.words.now l.capacities l.counts TABLES in (
      subst (λ (r : Run). r.start + width TABLES * r.count ≤ length l.words.now) (sym c.run_of-tables.ensures) (inside l.words.now l.capacities l.counts c.args.self.now.fits (place TABLES)).0,
      sym (every-both (λ t. table_fits l.counts t) (λ t. table_owns ts t) es)
          ∙ ap₂ (λ (ts es : List Entry). every (λ t. table_holds l.counts ts t) es)
          (sym (ap (λ r. entries (width TEMPLATES) r l.words.now) c.run_of-templates.ensures ∙ whole-entries l.words.now l.capacities l.counts (place TEMPLATES)))
          (sym (rest_all (width TABLES) l.words.now _ _ ∙ ap (λ (r : Run). entries_from (width TABLES) r.count r.start l.words.now) c.run_of-tables.ensures)),
    )

pub returns-then-not-table_fits : goal.returns-then-not-table_fits
returns-then-not-table_fits c =
    sym (c.loop-i.invariant.1 ∙ every_stop _ c.args.self.now.lists.words.now (width TABLES) _ _ _ c.loop-i-test.true (rw (sym c.table_fits.ensures ∙ c.if-not-table_fits.true)))

pub table_owns-requires-clause-tables_in_bounds : goal.table_owns-requires-clause-tables_in_bounds
table_owns-requires-clause-tables_in_bounds c =
    let l = c.args.self.now.lists in (
      one_in (width TABLES) l.words.now _ _ _ c.loop-i-test.true c.loop-i.invariant.0,
      subst (λ u. few (width TEMPLATES) u l.words.now) (sym c.run_of-templates.ensures) (whole-few l.words.now l.capacities l.counts c.args.self.now.fits (place TEMPLATES)),
    )

pub returns-then-not-table_owns : goal.returns-then-not-table_owns
returns-then-not-table_owns c =
    sym (c.loop-i.invariant.1 ∙ every_stop _ c.args.self.now.lists.words.now (width TABLES) _ _ _ c.loop-i-test.true (rw (sym c.table_fits.ensures ∙ c.if-not-table_fits.false, sym c.table_owns.ensures ∙ c.if-not-table_owns.true)))

pub loop-i-preserved : goal.loop-i-preserved
loop-i-preserved c =
    (c.loop-i.invariant.0, c.loop-i.invariant.1 ∙ every-next _ c.args.self.now.lists.words.now (width TABLES) _ _ _ c.loop-i-test.true (rw (sym c.table_fits.ensures ∙ c.if-not-table_fits.false, sym c.table_owns.ensures ∙ c.if-not-table_owns.false)))

pub returns : goal.returns
returns c =
    sym (c.loop-i.invariant.1 ∙ every_all _ c.args.self.now.lists.words.now (width TABLES) _ _ _ c.loop-i-test.false)
