-- By the parts, in their order.
use Rattle.blob.proofs.Laws.{handed, result_refused}
use Rattle.std.proofs.Common.{ap, sym, ◌∙◌}
use Rattle.blob.specs.Reading.{refused}
use Rattle.index.specs.Index.{ONE, ENTRY}
use Rattle.index.specs.Read.{counted_at}
use Rattle.index.proofs.ReadLaws.{was_word, was_counted, no-edition, other_edition, no-counts, no-entries}
use Rattle.index.proofs.check.Goals as goal

pub returns-in_err-edition : goal.returns-in_err-edition
returns-in_err-edition c = rw (handed _ c.from_residual.ensures.1) (no-edition _ _ (result_refused _ _ _ c.in_err-edition.ensures))

pub returns-then-edition-ne-EDITION : goal.returns-then-edition-ne-EDITION
returns-then-edition-ne-EDITION c =
    let n = was_word _ _ c.in_ok-edition.ensures in
    other_edition _ n.0 n.1 (λ e. c.if-edition-ne-EDITION.true (sym n.2 ∙ e)) ∙ ap refused (sym c.fault.ensures)

pub returns-in_err-counts : goal.returns-in_err-counts
returns-in_err-counts c =
    let n = was_word _ _ c.in_ok-edition.ensures in
    let q = result_refused _ _ _ c.in_err-counts.ensures in
    rw (handed _ c.from_residual-in_err-counts.ensures.1) (no-counts _ n.0 n.1 (n.2 ∙ c.if-edition-ne-EDITION.false) _ (ap (counted_at ONE _) n.3 ∙ q))

pub returns-in_err-entries : goal.returns-in_err-entries
returns-in_err-entries c =
    let n = was_word _ _ c.in_ok-edition.ensures in
    let k = was_counted _ _ c.in_ok-counts.ensures in
    let q = result_refused _ _ _ c.in_err-entries.ensures in
    rw (handed _ c.from_residual-in_err-entries.ensures.1)
    (no-entries _ n.0 n.1 (n.2 ∙ c.if-edition-ne-EDITION.false) k.0 (ap (counted_at ONE _) n.3 ∙ k.1) _ (ap (counted_at ENTRY _) k.3 ∙ q))
