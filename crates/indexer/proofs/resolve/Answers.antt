-- The invariant: what is left decides.
use Prim.Native.Nat.{◌+◌, ◌*◌}
use mathlib.Core.Path.{refl, ap, sym, ◌∙◌, subst}
use lib.ListN.{get_or, set}
use Rattle.blob.specs.Reading.{choose}
use Rattle.format.specs.Area.{EVENTS, TEMPLATES, place, width}
use Rattle.lists.specs.Entries.{one_in}
use Rattle.lists.specs.Fit.{inside}
use Rattle.lists.specs.Found.{entries, few}
use Rattle.lists.specs.Owners.{NOBODY}
use Rattle.indexer.specs.Listed.{finds_in, event_at}
use Rattle.indexer.specs.Resolved.{templates-few, resolved-all, resolved-more, resolved-none}
use Rattle.indexer.specs.declared.Known.{Known}
use Rattle.indexer.proofs.resolve.Goals as goal

pub loop-i-init : goal.loop-i-init
loop-i-init c =
    let l = c.args.together.now.fitted.lists in
    rw (c.area_at-start.ensures.0, c.owned.ensures)
    (inside l.words.now l.capacities l.counts c.args.together.now.fitted.fits (place EVENTS), refl, sym (resolved-all l.words.now l.capacities l.counts c.args.owners.now))

pub finds-found-requires : goal.finds-found-requires
finds-found-requires c =
    let l = c.args.together.now.fitted.lists in
    let k = ap (λ (k : Known). k.templates) c.templates_of-known.ensures in (
      one_in (width EVENTS) l.words.now _ _ _ c.loop-i-test.true c.loop-i.invariant.0.0,
      subst (λ r. few (width TEMPLATES) r l.words.now) (sym k) (templates-few l.words.now l.capacities l.counts c.args.together.now.fitted.fits c.args.together.now.tables_fit _),
    )

pub loop-i-preserved : goal.loop-i-preserved
loop-i-preserved c =
    let l = c.args.together.now.fitted.lists in
    let e = c.finds-found.ensures ∙ ap (λ (k : Known). finds_in (entries (width TEMPLATES) k.templates l.words.now) (event_at l.words.now (c.area_at-start.result + width EVENTS * c.loop-i.i))) c.templates_of-known.ensures in
    let p = get_or c.loop-i.owners c.loop-i.i 0 in
    let m = ap (set c.loop-i.owners c.loop-i.i) (c.kept.ensures ∙ ap (λ b. choose b p NOBODY) e) in (
      c.loop-i.invariant.0,
      rw c.templates_of-known.ensures,
      c.loop-i.invariant.2 ∙ resolved-more l.words.now l.capacities l.counts c.args.together.now.fitted.fits c.args.together.now.tables_fit _ _ _ _ _ c.loop-i-test.true m,
    )

pub returns : goal.returns
returns c =
    let l = c.args.together.now.fitted.lists in
    sym (c.loop-i.invariant.2 ∙ resolved-none l.words.now l.capacities l.counts c.args.together.now.fitted.fits c.args.together.now.tables_fit _ _ _ _ c.loop-i-test.false)
