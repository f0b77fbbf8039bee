-- The two words.
use Rattle.map.proofs.put_entry.Goals as goal

pub returns : goal.returns
returns c = rw (← c.word.ensures, ← c.word-2.ensures) c.put.ensures
