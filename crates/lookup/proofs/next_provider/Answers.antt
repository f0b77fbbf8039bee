-- By the number that was found.
use Rattle.std.specs.Prelude.{Some}
use mathlib.Core.Path.{ap, ap₂, sym, ◌∙◌, subst}
use Rattle.format.specs.Area.{PROVIDERS, TEMPLATES, place, width}
use Rattle.format.specs.Table.{EVNT}
use Rattle.lists.specs.declared.Run.{Run}
use Rattle.lists.specs.Found.{entries, run_of, has, owned}
use Rattle.lists.specs.Search.{position-found}
use Rattle.lookup.specs.declared.Walk.{Walk}
use Rattle.lookup.specs.Given.{came, arrived}
use Rattle.lookup.specs.ByKey.{came-to}
use Rattle.lookup.proofs.next_provider.Goals as goal

abbrev at : Run → Run → Run → Walk
at events templates providers = record { events = events; templates = templates; providers = providers }

pub behind-behind-requires : goal.behind-behind-requires
behind-behind-requires c =
    let g = sym c.find.ensures ∙ c.in_ok-p.was in
    let h = came-to c.args.together.now.fitted.lists.words.now c.args.together.now.fitted.lists.capacities c.args.together.now.fitted.lists.counts c.args.together.now.fitted.fits c.args.together.now.tables_fit c.args.guid.now c.args.providers c.requires.guid_len.1 _ g in
    (h.0, c.requires.guid_len.1.1)

pub returns : goal.returns
returns c =
    let g = sym c.find.ensures ∙ c.in_ok-p.was in
    let h = came-to c.args.together.now.fitted.lists.words.now c.args.together.now.fitted.lists.capacities c.args.together.now.fitted.lists.counts c.args.together.now.fitted.fits c.args.together.now.tables_fit c.args.guid.now c.args.providers c.requires.guid_len.1 _ g in
    let w = ap (λ v. at v c.owned-templates.result c.behind-behind.result) c.owned-events.ensures ∙ ap₂ (at (owned c.args.together.now.fitted.lists.words.now c.args.together.now.fitted.lists.capacities c.args.together.now.fitted.lists.counts c.in_ok-p.p EVNT)) c.owned-templates.ensures c.behind-behind.ensures in
    let n = (position-found (has 0 c.args.guid.now) c.args.providers.first (entries (width PROVIDERS) c.args.providers c.args.together.now.fitted.lists.words.now) _ g).0 in
    record { value = ap Some w ∙ ap (came c.args.together.now.fitted.lists.words.now c.args.together.now.fitted.lists.capacities c.args.together.now.fitted.lists.counts c.args.providers) (sym n); arrived = subst (λ v. arrived c.args.together.now.fitted.lists.words.now (run_of c.args.together.now.fitted.lists.capacities c.args.together.now.fitted.lists.counts (place TEMPLATES)) c.args.providers (Some v)) (sym w) h.1 }
