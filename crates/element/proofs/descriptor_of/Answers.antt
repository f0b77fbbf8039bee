-- A descriptor that is fine is its words.
use native.Mathlib.Omega.{arith}
use Rattle.element.specs.Elements.{descriptor_fits, descriptor_words_lem}
use Rattle.element.proofs.descriptor_of.Goals as goal

pub returns : goal.returns
returns c =
    descriptor_words_lem _ _ c.requires.b_value _ _ _ c.word-offset.ensures c.word.ensures c.word-2.ensures

pub word-requires-2 : goal.word-requires-2
word-requires-2 c = omega (arith, c.word-offset.ensures, descriptor_fits _ _ c.requires.b_value)
