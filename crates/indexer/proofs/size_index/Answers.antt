-- What is counted, one behind the other, is the whole.
use native.Mathlib.Omega.{arith}
use Rattle.format.specs.Area.{PROVIDERS, EVENTS, place}
use Rattle.lists.specs.Fit.{inside}
use Rattle.indexer.specs.Whole.{whole-size, list-stands}
use Rattle.indexer.proofs.size_index.Goals as goal

pub size_entries-found-requires : goal.size_entries-found-requires
size_entries-found-requires c =
    let l = c.args.fitted.now.lists in list-stands l.words.now l.capacities l.counts c.args.fitted.now.fits (place EVENTS) _ c.area_at-events.ensures.0

pub size_counts-requires : goal.size_counts-requires
size_counts-requires c =
    let l = c.args.fitted.now.lists in list-stands l.words.now l.capacities l.counts c.args.fitted.now.fits (place PROVIDERS) _ c.area_at-providers.ensures.0

pub overflow_cast-head : goal.overflow_cast-head
overflow_cast-head c =
    let l = c.args.fitted.now.lists in omega (arith, inside l.words.now l.capacities l.counts c.args.fitted.now.fits (place PROVIDERS))

pub overflow_add-size : goal.overflow_add-size
overflow_add-size c =
    let l = c.args.fitted.now.lists in
    let m = rw c.area_at-events.ensures.0 at c.size_entries-found.ensures.counted in
    let s = whole-size l.words.now l.capacities l.counts c.args.owners.now _ _ _ m c.area_at-providers.ensures.0 c.area_at-events.ensures.0 c.args.fitted.now.fits in
    omega (arith, s)

pub overflow_add-size-2 : goal.overflow_add-size-2
overflow_add-size-2 c =
    let l = c.args.fitted.now.lists in
    let m = rw c.area_at-events.ensures.0 at c.size_entries-found.ensures.counted in
    let s = whole-size l.words.now l.capacities l.counts c.args.owners.now _ _ _ m c.area_at-providers.ensures.0 c.area_at-events.ensures.0 c.args.fitted.now.fits in
    omega (arith, s)

pub overflow_add-size-3 : goal.overflow_add-size-3
overflow_add-size-3 c =
    let l = c.args.fitted.now.lists in
    let m = rw c.area_at-events.ensures.0 at c.size_entries-found.ensures.counted in
    let s = whole-size l.words.now l.capacities l.counts c.args.owners.now _ _ _ m c.area_at-providers.ensures.0 c.area_at-events.ensures.0 c.args.fitted.now.fits in
    omega (arith, s, c.size_entries-found.ensures.sized)

pub returns : goal.returns
returns c =
    let l = c.args.fitted.now.lists in
    let m = rw c.area_at-events.ensures.0 at c.size_entries-found.ensures.counted in
    let s = whole-size l.words.now l.capacities l.counts c.args.owners.now _ _ _ m c.area_at-providers.ensures.0 c.area_at-events.ensures.0 c.args.fitted.now.fits in
    (m, omega (arith, s, c.size_entries-found.ensures.sized))
