-- The invariant: what is left decides. The rest, laid from here, makes the area what it shall be, and the rest is fine.
use mathlib.Core.Path.{sym, ◌∙◌}
use native.Mathlib.Omega.{arith}
use borrow.Author.Rules.{rules}
use Rattle.blob.proofs.Laws.{many-first, many_next, rest-next, rest-none}
use Rattle.format.specs.Definition.{definition_at, step}
use Rattle.format.specs.Lists.{definition_words}
use Rattle.definition.specs.Records.{below_whole}
use Rattle.definition.proofs.fill_records.Goals as goal

pub definition_of-d-requires : goal.definition_of-d-requires
definition_of-d-requires c =
    let o = below_whole c.stride-bytes.result c.loop-i.i c.args.n (omega arith) in
    let v = many-first (definition_at _) (step _) _ _ _ (omega arith) c.loop-i.invariant.0 in
    search rules

pub loop-i-preserved : goal.loop-i-preserved
loop-i-preserved c =
    let inv = c.loop-i.invariant in
    let found = c.definition_of-d.ensures in (
      sym (many_next (definition_at _) (step _) _ _ _ _ _ _ (omega arith) found (omega arith)) ∙ inv.0,
      inv.1 ∙ rest-next (definition_at _) (step _) definition_words _ _ _ _ _ _ _ _ _ _ c.put_definition.ensures (omega arith) found inv.0 (omega arith) (omega arith),
    )

pub returns : goal.returns
returns c = sym (c.loop-i.invariant.1 ∙ rest-none (definition_at _) (step _) definition_words _ _ _ _ _ (omega arith))
