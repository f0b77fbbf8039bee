-- By the tests, in their order.
use mathlib.Core.Path.{sym, ◌∙◌}
use Rattle.blob.proofs.Laws.{handed_on}
use Rattle.format.specs.Area.{EVENTS, place}
use Rattle.lists.specs.Fit.{inside}
use Rattle.indexer.specs.Tested.{write_refused, write_unowned, write_past, write_given}
use Rattle.indexer.proofs.write.Goals as goal

pub returns-in_err-together : goal.returns-in_err-together
returns-in_err-together c =
    let l = c.args.lists.now in
    let x = write_refused l.words.now l.capacities l.counts c.args.bytes.now _ c.in_err-together.ensures in
    record { answered = handed_on c.from_residual.ensures.1 x.answered; kept = x.kept }

pub returns-then-not-owners : goal.returns-then-not-owners
returns-then-not-owners c =
    let l = c.in_ok-together.together.fitted.lists in
    let k = rw (← c.in_ok-together.ensures.0) at c.in_ok-together.ensures.1 in
    rw (← c.in_ok-together.ensures.0) (write_unowned l.words.now l.capacities l.counts c.args.bytes.now k _ c.own.ensures (sym c.owners.ensures.value ∙ c.if-not-owners.true))

pub all_fit-requires : goal.all_fit-requires
all_fit-requires c =
    let l = c.in_ok-together.together.fitted.lists in
    rw c.run_of-events.ensures (inside l.words.now l.capacities l.counts c.in_ok-together.together.fitted.fits (place EVENTS))

pub returns-then-not-all_fit : goal.returns-then-not-all_fit
returns-then-not-all_fit c =
    let l = c.in_ok-together.together.fitted.lists in
    let k = rw (← c.in_ok-together.ensures.0) at c.in_ok-together.ensures.1 in
    let w = rw c.run_of-events.ensures at c.all_fit.ensures in
    rw (← c.in_ok-together.ensures.0)
    (write_past l.words.now l.capacities l.counts c.args.bytes.now k _ c.own-then-not-all_fit.ensures (sym c.owners.ensures.value ∙ c.if-not-owners.false) (sym w ∙ c.if-not-all_fit.true))

pub returns : goal.returns
returns c =
    let l = c.in_ok-together.together.fitted.lists in
    let k = rw (← c.in_ok-together.ensures.0) at c.in_ok-together.ensures.1 in
    let w = rw c.run_of-events.ensures at c.all_fit.ensures in
    rw (← c.in_ok-together.ensures.0)
    (write_given l.words.now l.capacities l.counts c.args.bytes.now k _ _ _ c.if-not-owners.false c.owners.ensures.value c.owners.ensures.owns (sym w ∙ c.if-not-all_fit.false) c.resolve.ensures _ _ c.give.ensures.value c.give.ensures.bytes_after)
