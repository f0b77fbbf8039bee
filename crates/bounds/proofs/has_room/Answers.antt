-- Each way out of the two comparisons decides the one test of the definition.
use Prim.Native.Nat.{◌+◌}
use mathlib.Core.Path.{sym}
use native.Mathlib.Omega.{arith}
use lib.ListN.{length}
use borrow.Author.Tests.{le-leb, lt-leb}
use Rattle.bounds.proofs.has_room.Goals as goal

pub returns-then-b-at : goal.returns-then-b-at
returns-then-b-at c = let a = c.before.args in sym (lt-leb (a.at + a.needed) (length a.b.now) (omega arith))

pub returns-then-b-at-2 : goal.returns-then-b-at-2
returns-then-b-at-2 c = let a = c.before.before.args in sym (lt-leb (a.at + a.needed) (length a.b.now) (omega arith))

pub returns : goal.returns
returns c = let a = c.before.before.args in sym (le-leb (a.at + a.needed) (length a.b.now) (omega arith))
