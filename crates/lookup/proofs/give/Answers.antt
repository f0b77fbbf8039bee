-- By the number that was counted.
use Rattle.std.specs.Prelude.{Ok}
use Prim.Native.Nat.{◌+◌, ◌/◌, min}
use mathlib.Core.Path.{ap, sym, ◌∙◌}
use lib.ListN.{length, length-map}
use Rattle.blob.specs.Laid.{laid}
use Rattle.format.specs.Area.{TEMPLATES, place}
use Rattle.format.specs.Entry.{GUID}
use Rattle.format.specs.Lookup.{key_words, guids_found, guids_held}
use Rattle.lists.specs.Found.{run_of}
use Rattle.lookup.specs.Given.{guid_of, unset, new_of, guids_from, give_all, stored_guids}
use Rattle.lookup.specs.ByKey.{given-none}
use native.Mathlib.Omega.{arith}
use Rattle.lookup.proofs.give.Goals as goal

pub returns : goal.returns
returns c =
    let ns = new_of c.args.together.now.fitted.lists.words.now c.args.together.now.fitted.lists.capacities c.args.together.now.fitted.lists.counts c.args.guid.now (key_words c.args.k) unset c.args.walk in
    let list = run_of c.args.together.now.fitted.lists.capacities c.args.together.now.fitted.lists.counts (place TEMPLATES) in
    let m = length-map ns (guid_of c.args.together.now.fitted.lists.words.now list) in
    let e = c.count-n.ensures ∙ ap (λ n. min n (length c.args.guids.now / GUID + 1)) (sym m) in
    let g = give_all (guids_from c.args.together.now.fitted.lists.words.now c.args.together.now.fitted.lists.capacities c.args.together.now.fitted.lists.counts c.args.guid.now (key_words c.args.k) c.args.walk) c.args.guids.now _ e c.if-capacity-n.false in record { value = ap Ok g.1 ∙ ap guids_found (sym g.0); guids_after = c.fill.ensures ∙ ap (laid c.args.guids.now 0) (stored_guids c.args.together.now.fitted.lists.words.now list ns) ∙ ap (guids_held c.args.guids.now) (sym g.0) }

pub returns-then-n-eq0 : goal.returns-then-n-eq0
returns-then-n-eq0 c =
    let ns = new_of c.args.together.now.fitted.lists.words.now c.args.together.now.fitted.lists.capacities c.args.together.now.fitted.lists.counts c.args.guid.now (key_words c.args.k) unset c.args.walk in
    let list = run_of c.args.together.now.fitted.lists.capacities c.args.together.now.fitted.lists.counts (place TEMPLATES) in
    let m = length-map ns (guid_of c.args.together.now.fitted.lists.words.now list) in
    let e = c.count-n.ensures ∙ ap (λ n. min n (length c.args.guids.now / GUID + 1)) (sym m) in
    let x = given-none c.args.guids.now (guids_from c.args.together.now.fitted.lists.words.now c.args.together.now.fitted.lists.capacities c.args.together.now.fitted.lists.counts c.args.guid.now (key_words c.args.k) c.args.walk) (omega (arith, (give_all (guids_from c.args.together.now.fitted.lists.words.now c.args.together.now.fitted.lists.capacities c.args.together.now.fitted.lists.counts c.args.guid.now (key_words c.args.k) c.args.walk) c.args.guids.now _ e c.if-capacity-n.false).1, c.if-n-eq0.true)) in
    record { value = x.0; guids_after = x.1 }
