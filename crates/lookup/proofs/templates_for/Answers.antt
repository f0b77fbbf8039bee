-- By the tests, in their order.
use mathlib.Core.Path.{refl, ap, sym, ◌∙◌, subst}
use mathlib.Core.List.{[]}
use Rattle.format.specs.Area.{PROVIDERS, place, width}
use Rattle.format.specs.Lists.{guid_words}
use Rattle.format.specs.Lookup.{guids_found, guids_held}
use Rattle.blob.proofs.Laws.{handed_on}
use Rattle.lists.specs.Fit.{fits_together, whole-few}
use Rattle.lists.specs.Found.{few}
use Rattle.lookup.specs.Given.{next_provider, room_for}
use Rattle.lookup.specs.ByKey.{key-wide, key-refused, key-room, key-given, given-none, refusal-keeps}
use native.Mathlib.Omega.{arith}
use Rattle.lookup.proofs.templates_for.Goals as goal

pub returns-then-guids : goal.returns-then-guids
returns-then-guids c =
    (let x = refusal-keeps c.args.guids.now _ _ _ c.own.ensures (key-wide c.args.lists.now.words.now c.args.lists.now.capacities c.args.lists.now.counts c.args.key c.args.guids.now c.if-guids.true) in record { answered = x.0; kept = x.1 })

pub returns-in_err-together : goal.returns-in_err-together
returns-in_err-together c =
    (let x = refusal-keeps c.args.guids.now _ _ _ refl (key-refused c.args.lists.now.words.now c.args.lists.now.capacities c.args.lists.now.counts c.args.key c.args.guids.now c.if-guids.false _ c.in_err-together.ensures) in record { answered = handed_on c.from_residual.ensures.1 x.0; kept = x.1 })

pub next_provider-requires : goal.next_provider-requires
next_provider-requires c =
    let l = c.in_ok-together.together.fitted.lists in
    record { guid_len = (omega arith, subst (λ u. few (width PROVIDERS) u l.words.now) (sym c.run_of-providers.ensures) (whole-few l.words.now l.capacities l.counts c.in_ok-together.together.fitted.fits (place PROVIDERS))) }

pub returns-in_default : goal.returns-in_default
returns-in_default c =
    let t = c.in_ok-together.together in
    let l = t.fitted.lists in
    let o = (fits_together l.words.now l.capacities l.counts (rw (← c.in_ok-together.ensures.0) at c.in_ok-together.ensures.1)).1 in
    let x = sym (key-room l.words.now l.capacities l.counts c.args.key c.args.guids.now c.if-guids.false t.fitted.fits t.tables_fit o ∙ ap (room_for c.args.guids.now) (key-given l.words.now l.capacities l.counts t.fitted.fits t.tables_fit c.args.key _ (ap (next_provider l.words.now l.capacities l.counts (guid_words c.args.key.guid)) (sym c.run_of-providers.ensures) ∙ sym c.next_provider.ensures.value ∙ c.in_default.is))) in
    let y = given-none c.args.guids.now [] (omega arith) in
    rw (← c.in_ok-together.ensures.0) (record { answered = y.0 ∙ ap guids_found x; kept = y.1 ∙ ap (guids_held c.args.guids.now) x })

pub returns : goal.returns
returns c =
    let t = c.in_ok-together.together in
    let l = t.fitted.lists in
    let o = (fits_together l.words.now l.capacities l.counts (rw (← c.in_ok-together.ensures.0) at c.in_ok-together.ensures.1)).1 in
    let x = sym (key-room l.words.now l.capacities l.counts c.args.key c.args.guids.now c.if-guids.false t.fitted.fits t.tables_fit o ∙ ap (room_for c.args.guids.now) (key-given l.words.now l.capacities l.counts t.fitted.fits t.tables_fit c.args.key _ (ap (next_provider l.words.now l.capacities l.counts (guid_words c.args.key.guid)) (sym c.run_of-providers.ensures) ∙ sym c.next_provider.ensures.value ∙ c.in-Some.is))) in
    rw (← c.in_ok-together.ensures.0) (record { answered = c.give.ensures.value ∙ ap guids_found x; kept = c.give.ensures.guids_after ∙ ap (guids_held c.args.guids.now) x })
