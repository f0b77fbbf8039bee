-- The invariant: what is left decides.
use mathlib.Core.Path.{ap, ◌∙◌}
use mathlib.Core.List.{append-nil}
use lib.ListN.{length, length-replicate}
use Rattle.format.specs.Area.{PROVIDERS, TABLES, EVENTS, place, width, of}
use Rattle.format.specs.Lookup.{select}
use Rattle.lists.specs.Entries.{rest_all, rest_more, rest_none, one_in}
use Rattle.lists.specs.Fit.{inside}
use Rattle.lists.specs.Owners.{NOBODY, given, unseen, start, fits, bounded, two-owners, settled}
use native.Mathlib.Omega.{arith}
use Rattle.lists.proofs.Together.owners.Goals as goal

pub loop-i-init : goal.loop-i-init
loop-i-init c =
    let s = c.args.self.now in
    let l = s.fitted.lists in
    let n = inside l.words.now l.capacities l.counts s.fitted.fits in
    rw (rest_all (width TABLES) l.words.now, c.run_of-tables.ensures)
    ((n (place TABLES)).0, ap length c.requires ∙ length-replicate 65536 NOBODY, s.tables_fit, start l.counts _ s.tables_fit (n (place PROVIDERS)).1 c.args.owners.now c.requires)

pub take_table-requires : goal.take_table-requires
take_table-requires c =
    let s = c.args.self.now in
    let l = s.fitted.lists in
    let n = inside l.words.now l.capacities l.counts s.fitted.fits in
    let e = rest_more (width TABLES) l.words.now c.run_of-tables.result.count c.run_of-tables.result.start c.loop-i.i c.loop-i-test.true in
    record { tables_in_bounds = (one_in (width TABLES) l.words.now _ _ _ c.loop-i-test.true c.loop-i.invariant.0, c.loop-i.invariant.1); bounded = bounded l.counts _ _ (rw e at c.loop-i.invariant.2) (n (place PROVIDERS)).1 (n (place EVENTS)).1 }

pub all_owned-requires : goal.all_owned-requires
all_owned-requires c =
    let l = c.args.self.now.fitted.lists in
    (inside l.words.now l.capacities l.counts c.args.self.now.fitted.fits (place EVENTS)).1

pub returns-then-not-take_table : goal.returns-then-not-take_table
returns-then-not-take_table c =
    let l = c.args.self.now.fitted.lists in
    let n = (inside l.words.now l.capacities l.counts c.args.self.now.fitted.fits (place EVENTS)).1 in
    let e = rest_more (width TABLES) l.words.now c.run_of-tables.result.count c.run_of-tables.result.start c.loop-i.i c.loop-i-test.true in
    let k = rw c.if-not-take_table.true at c.take_table.ensures in
    let o = two-owners l.counts _ _ (rw e at c.loop-i.invariant.2) n _ c.loop-i.owners c.loop-i.seen (rw e at c.loop-i.invariant.3) c.take_table.new.owners c.take_table.new.seen k in
    record { value = o.0; owns = o.1 }

pub loop-i-preserved : goal.loop-i-preserved
loop-i-preserved c =
    let l = c.args.self.now.fitted.lists in
    let e = rest_more (width TABLES) l.words.now c.run_of-tables.result.count c.run_of-tables.result.start c.loop-i.i c.loop-i-test.true in
    let k = rw c.if-not-take_table.false at c.take_table.ensures in
    (c.loop-i.invariant.0, k.0 ∙ c.loop-i.invariant.1, (fits l.counts _ _ (rw e at c.loop-i.invariant.2)).1, λ i h. rw e at (c.loop-i.invariant.3 i h) ∙ k.1 _ i)

pub returns : goal.returns
unfolding unseen select
returns c =
    let l = c.args.self.now.fitted.lists in
    let n = (inside l.words.now l.capacities l.counts c.args.self.now.fitted.fits (place EVENTS)).1 in
    let e = rest_none (width TABLES) l.words.now c.run_of-tables.result.count c.run_of-tables.result.start c.loop-i.i c.loop-i-test.false in
    let o = settled _ (of EVENTS l.counts) c.loop-i.owners c.loop-i.invariant.1 (λ i h. rw e at (c.loop-i.invariant.3 i (omega arith)) ∙ append-nil (given c.loop-i.owners i)) c.all_owned.result c.all_owned.ensures in
    record { value = o.0; owns = o.1 }
