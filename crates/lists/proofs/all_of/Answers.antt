-- The invariant: what is left decides.
use Prim.Native.Nat.{ℕ}
use mathlib.Core.Bool.{Bool}
use lib.Dec.{eqb}
use borrow.Author.Tests.{eq-eqb, ne_eqb}
use mathlib.Core.Path.{ap, sym, ◌∙◌}
use Rattle.format.specs.Area.{TEMPLATES, width}
use Rattle.format.specs.Entry.{TEMPLATE_PROVIDER}
use Rattle.format.specs.Lists.{Entry}
use Rattle.format.specs.Lookup.{word_of, all_of}
use Rattle.lists.specs.Entries.{word_at}
use Rattle.lists.specs.Search.{every-next, every_stop, every_all, run-rest}
use native.Mathlib.Omega.{arith}
use Rattle.lists.proofs.all_of.Goals as goal

abbrev owner : ℕ → Entry → Bool
owner provider t = eqb (word_of TEMPLATE_PROVIDER t) provider

pub loop-number-init : goal.loop-number-init
loop-number-init c = ap (all_of c.args.provider) (sym (run-rest (width TEMPLATES) c.args.templates c.args.words.now))

pub returns-then-words-at : goal.returns-then-words-at
returns-then-words-at c =
    sym (c.loop-number.invariant ∙ every_stop (owner c.args.provider) c.args.words.now (width TEMPLATES) _ _ _ c.loop-number-test.true (rw (word_at (width TEMPLATES) c.args.words.now TEMPLATE_PROVIDER _ (omega arith)) (ne_eqb _ _ c.if-words-at.true)))

pub loop-number-preserved : goal.loop-number-preserved
loop-number-preserved c =
    c.loop-number.invariant ∙ every-next (owner c.args.provider) c.args.words.now (width TEMPLATES) _ _ _ c.loop-number-test.true (rw (word_at (width TEMPLATES) c.args.words.now TEMPLATE_PROVIDER _ (omega arith)) (eq-eqb _ _ c.if-words-at.false))

pub returns : goal.returns
returns c = sym (c.loop-number.invariant ∙ every_all (owner c.args.provider) c.args.words.now (width TEMPLATES) _ _ _ c.loop-number-test.false)
