-- Each word is the definition's own.
use mathlib.Core.Path.{ap, sym, ◌∙◌}
use borrow.Author.Rules.{rules}
use Rattle.blob.specs.Laid.{laid}
use Rattle.item.specs.Items.{item_words_lem, name-fine}
use Rattle.item.proofs.put.Goals as goal

pub name_of-name-requires : goal.name_of-name-requires
name_of-name-requires c =
    record { end_in_bounds = search rules; b_value = rw c.word-offset.ensures (name-fine _ _ _ _ c.requires.b_value) }

pub returns : goal.returns
returns c i found =
    let name = rw c.word-offset.ensures at c.name_of-name.ensures in
    c.put.ensures
    ∙ ap (laid c.args.area.now c.args.to) (
    rw (c.word.ensures, c.half.ensures, c.half-2.ensures, c.word-2.ensures, c.word-3.ensures, c.word-offset.ensures)
    (sym (item_words_lem _ _ _ _ c.args.number i found c.name_of-name.result name)))
