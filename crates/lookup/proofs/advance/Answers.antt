use Prim.{tt}
use mathlib.Core.Path.{ap, sym, ◌∙◌, subst}
use Rattle.format.specs.Area.{TEMPLATES, place}
use Rattle.lists.specs.Found.{run_of}
use Rattle.lookup.specs.Given.{arrived, new_at, tells_over}
use Rattle.lookup.specs.ByKey.{come_to}
use Rattle.lookup.proofs.advance.Goals as goal

pub returns-in_err-at : goal.returns-in_err-at
returns-in_err-at c =
    rw c.from_residual.ensures
    record { walk_after = c.loop-n.invariant.1 ∙ tells_over c.args.together.now.fitted.lists.words.now c.run_of-list.result c.loop-n.at.templates c.args.key.now c.loop-n.marks c.loop-n.at.events _ _ c.next_new.ensures.tells _ c.run_of-list.ensures _ c.in_default.is ∙ come_to c.args.together.now.fitted.lists.words.now c.args.together.now.fitted.lists.capacities c.args.together.now.fitted.lists.counts c.args.guid.now c.args.key.now c.loop-n.at.providers _ ∙ ap (new_at c.args.together.now.fitted.lists.words.now c.args.together.now.fitted.lists.capacities c.args.together.now.fitted.lists.counts c.args.guid.now c.args.key.now _) (sym c.next_provider.ensures.value ∙ c.in_err-at.was); onward = tt }

pub loop-n-preserved : goal.loop-n-preserved
loop-n-preserved c =
    let h = subst (arrived c.args.together.now.fitted.lists.words.now (run_of c.args.together.now.fitted.lists.capacities c.args.together.now.fitted.lists.counts (place TEMPLATES)) c.loop-n.at.providers) c.in_ok-at.was c.next_provider.ensures.arrived in
    (h.0, c.loop-n.invariant.1 ∙ tells_over c.args.together.now.fitted.lists.words.now c.run_of-list.result c.loop-n.at.templates c.args.key.now c.loop-n.marks c.loop-n.at.events _ _ c.next_new.ensures.tells _ c.run_of-list.ensures _ c.in_default.is ∙ come_to c.args.together.now.fitted.lists.words.now c.args.together.now.fitted.lists.capacities c.args.together.now.fitted.lists.counts c.args.guid.now c.args.key.now c.loop-n.at.providers _ ∙ ap (new_at c.args.together.now.fitted.lists.words.now c.args.together.now.fitted.lists.capacities c.args.together.now.fitted.lists.counts c.args.guid.now c.args.key.now _) (sym c.next_provider.ensures.value ∙ c.in_ok-at.was))
