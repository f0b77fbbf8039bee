-- A signature that is not the one in its cell has no kind.
use Rattle.std.proofs.Common.{sym, ◌∙◌}
use Rattle.format.specs.Table.{kind_in}
use Rattle.element.specs.Signatures.{names-none}
use Rattle.element.proofs.kind_of.Goals as goal

pub returns-then-signature-named : goal.returns-then-signature-named
unfolding kind_in
returns-then-signature-named c = sym (names-none _ (λ e. c.if-signature-named.true (e ∙ sym c.named.ensures)))
