-- Four words of it.
use native.Mathlib.Omega.{arith}
use Rattle.provided.specs.Provided.{header-room, header-words}
use Rattle.provided.proofs.wevt_of.Goals as goal

pub word-requires : goal.word-requires
word-requires c =
    let r = header-room _ _ c.requires.1 in
    omega (arith, r, c.word-place.ensures)

pub word-requires-2 : goal.word-requires-2
word-requires-2 c =
    let r = header-room _ _ c.requires.1 in
    omega (arith, r, c.word-place.ensures)

pub word-requires-3 : goal.word-requires-3
word-requires-3 c =
    let r = header-room _ _ c.requires.1 in
    omega (arith, r, c.word-place.ensures)

pub word-requires-4 : goal.word-requires-4
word-requires-4 c =
    let r = header-room _ _ c.requires.1 in
    omega (arith, r, c.word-place.ensures)

pub returns : goal.returns
returns c =
    rw (c.word-4.ensures, c.word-3.ensures, c.word-2.ensures, c.word.ensures, c.word-place.ensures) (header-words _ _ c.requires.1)
