-- The invariant: what is left decides.
use Prim.Native.Nat.{◌+◌, ◌*◌}
use mathlib.Core.Path.{◌≡◌, ap, sym, ◌∙◌}
use mathlib.Core.Bool.{Bool, true, false}
use lib.ListN.{length, get_or, set, take, drop}
use Rattle.blob.specs.Reading.{choose}
use Rattle.lookup.specs.Given.{marked_more, marked-none}
use Rattle.format.specs.Area.{TEMPLATES, width}
use Rattle.format.specs.Entry.{TEMPLATE_GUID}
use Rattle.format.specs.Lookup.{alike}
use Rattle.lookup.proofs.mark.Goals as goal
use Rattle.lookup.proofs.mark.Goals.{then-given, else-given}

pub loop-i-preserved : goal.loop-i-preserved
loop-i-preserved c =
    let either = λ (t : Bool). choose t true (get_or c.loop-i.marks c.loop-i.i false) in
    let m : c.if-given.marks ≡ either (alike (take (length c.args.guid.now) (drop (c.args.list.start + width TEMPLATES * c.loop-i.i + TEMPLATE_GUID) c.args.words.now)) c.args.guid.now) =
    elim c.if-given.branch [ then-given w ↦ w.marks-is ∙ w.if-given.true ∙ ap either (sym w.if-given.true ∙ c.same-given.ensures) | else-given w ↦ w.marks-is ∙ ap either (sym w.if-given.false ∙ c.same-given.ensures) ] in
    c.loop-i.invariant ∙ marked_more c.args.words.now c.args.guid.now _ _ _ _ c.loop-i-test.true _ (ap (set c.loop-i.marks c.loop-i.i) m)

pub returns : goal.returns
returns c = sym (c.loop-i.invariant ∙ marked-none c.args.words.now c.args.guid.now _ _ _ _ c.loop-i-test.false)
