-- A word of the words.
use mathlib.Core.Path.{sym}
use Rattle.format.specs.Area.{TABLES, width}
use Rattle.lists.specs.Entries.{word_at}
use native.Mathlib.Omega.{arith}
use Rattle.lists.proofs.table_word.Goals as goal

pub returns : goal.returns
returns c =
    sym (word_at (width TABLES) c.args.words.now c.args.i c.args.at (omega arith))
