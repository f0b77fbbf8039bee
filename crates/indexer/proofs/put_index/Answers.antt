-- What is stored, one behind the other, is the whole.
use native.Mathlib.Omega.{arith}
use Rattle.format.specs.Area.{PROVIDERS, EVENTS, place}
use Rattle.lists.specs.Fit.{inside}
use Rattle.indexer.specs.Whole.{parts, parts-laid, whole-size, list-stands}
use Rattle.indexer.proofs.put_index.Goals as goal

pub overflow_cast-head : goal.overflow_cast-head
overflow_cast-head c =
    let l = c.args.fitted.now.lists in omega (arith, inside l.words.now l.capacities l.counts c.args.fitted.now.fits (place PROVIDERS))

pub put_all-to-requires : goal.put_all-to-requires
put_all-to-requires c =
    let l = c.args.fitted.now.lists in
    let s = whole-size l.words.now l.capacities l.counts c.args.owners.now _ _ _ c.requires.found_value c.area_at-providers.ensures.0 c.area_at-events.ensures.0 c.args.fitted.now.fits in
    omega (arith, s)

pub put_counts-behind-requires : goal.put_counts-behind-requires
put_counts-behind-requires c =
    let l = c.args.fitted.now.lists in
    let s = whole-size l.words.now l.capacities l.counts c.args.owners.now _ _ _ c.requires.found_value c.area_at-providers.ensures.0 c.area_at-events.ensures.0 c.args.fitted.now.fits in
    record { stand = list-stands l.words.now l.capacities l.counts c.args.fitted.now.fits (place PROVIDERS) _ c.area_at-providers.ensures.0; room = omega (arith, s) }

pub put_all-last-requires : goal.put_all-last-requires
put_all-last-requires c =
    let l = c.args.fitted.now.lists in
    let s = whole-size l.words.now l.capacities l.counts c.args.owners.now _ _ _ c.requires.found_value c.area_at-providers.ensures.0 c.area_at-events.ensures.0 c.args.fitted.now.fits in
    omega (arith, s)

pub put_entries-requires : goal.put_entries-requires
put_entries-requires c =
    let l = c.args.fitted.now.lists in
    let s = whole-size l.words.now l.capacities l.counts c.args.owners.now _ _ _ c.requires.found_value c.area_at-providers.ensures.0 c.area_at-events.ensures.0 c.args.fitted.now.fits in
    record { stand = list-stands l.words.now l.capacities l.counts c.args.fitted.now.fits (place EVENTS) _ c.area_at-events.ensures.0; room = omega (arith, s) }

pub returns : goal.returns
returns c =
    let l = c.args.fitted.now.lists in
    parts-laid (parts l.words.now l.capacities l.counts c.args.owners.now _ _ _ c.requires.found_value c.area_at-providers.ensures.0 c.area_at-events.ensures.0)
    c.args.bytes.now _ _ _ _ _ _ _ c.put_all-to.ensures.bytes_after c.put_all-to.ensures.value c.put_counts-behind.ensures.bytes_after c.put_counts-behind.ensures.value c.put_all-last.ensures.bytes_after c.put_all-last.ensures.value c.put_entries.ensures
