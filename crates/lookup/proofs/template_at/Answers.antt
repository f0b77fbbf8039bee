-- By the tests, in their order.
use Rattle.std.specs.Prelude.{Ok, Err}
use mathlib.Core.Path.{ap, sym, ◌∙◌}
use mathlib.Core.List.{[], ◌∷◌}
use Rattle.format.specs.Area.{TEMPLATES, place, width}
use Rattle.format.specs.Entry.{TEMPLATE_PROVIDER}
use Rattle.format.specs.Lookup.{position}
use Rattle.blob.proofs.Laws.{handed_on}
use Rattle.lists.specs.Fit.{fits, inside}
use Rattle.lists.specs.Found.{entries, has, found}
use Rattle.lookup.specs.ByOffset.{offset-refused, offset-past, offset-found}
use native.Mathlib.Omega.{arith}
use Rattle.lookup.proofs.template_at.Goals as goal

pub returns-in_err-fits : goal.returns-in_err-fits
returns-in_err-fits c =
    record { answered = handed_on c.from_residual.ensures.1 (sym (offset-refused c.args.lists.now.words.now c.args.lists.now.capacities c.args.lists.now.counts _ _ _ _ _ (sym c.in_err-fits.ensures))) }

pub returns-then-lists-first : goal.returns-then-lists-first
returns-then-lists-first c =
    record {
      answered = ap Err c.own.ensures
          ∙ sym (offset-past c.args.lists.now.words.now c.args.lists.now.capacities c.args.lists.now.counts _ _ _ _ (fits _ _ _ (sym c.in_ok-fits.ensures)) c.if-lists-first.true);
    }

pub find-requires : goal.find-requires
find-requires c =
    let h = inside c.args.lists.now.words.now c.args.lists.now.capacities c.args.lists.now.counts (fits _ _ _ (sym c.in_ok-fits.ensures)) (place TEMPLATES) in
    record { key_in_entry = omega arith; few = (omega (arith, c.area_at-start.ensures.0, c.if-lists-first.false), omega (arith, c.if-lists-first.false)) }

pub returns : goal.returns
returns c =
    record {
      answered = ap Ok c.find.ensures
          ∙ ap (λ s. Ok (found (position (has TEMPLATE_PROVIDER (c.args.provider ∷ c.args.offset ∷ [])) c.args.first (entries (width TEMPLATES) (record { start = s; first = c.args.first; count = c.args.count }) c.args.lists.now.words.now)))) c.area_at-start.ensures.0
          ∙ sym (offset-found c.args.lists.now.words.now c.args.lists.now.capacities c.args.lists.now.counts _ _ _ _ (fits _ _ _ (sym c.in_ok-fits.ensures)) c.if-lists-first.false);
    }
