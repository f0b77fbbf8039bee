-- The kinds of tables by name, as the code has them, and their numbers, which the definition speaks of.
use Rattle.std.specs.Prelude.{ℕ, Option, Some, None}
use Rattle.format.specs.Table.{CHAN, EVNT, KEYW, LEVL, MAPS, OPCO, TASK, TTBL}
use Rattle.format.specs.declared.kind.Kind.{Kind}
use Rattle.format.specs.declared.kind.Kind.TheVariants.{Chan, Evnt, Keyw, Levl, Maps, Opco, Task, Ttbl}

abbrev pub number : Kind → ℕ
number Chan = CHAN
number Evnt = EVNT
number Keyw = KEYW
number Levl = LEVL
number Maps = MAPS
number Opco = OPCO
number Task = TASK
number Ttbl = TTBL

-- of a kind, or none, the number, or 0
abbrev pub numbered : Option Kind → ℕ
numbered None = 0
numbered (Some k) = number k
