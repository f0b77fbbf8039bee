-- The rows of the table that is kept, or nothing.
use mathlib.Core.Path.{sym, ◌∙◌, subst}
use mathlib.Core.List.{List}
use native.Mathlib.Omega.{arith}
use Rattle.format.specs.Kinds.{number}
use Rattle.format.specs.Provider.{Table}
use Rattle.format.specs.Steps.Parts.{TablesRoom}
use Rattle.format.proofs.Theorems.Kinds.{one_of-eight}
use Rattle.table.specs.Headers.{header-bytes}
use Rattle.fillers.specs.Kinds.{somewhere, kept-only, kind-none}
use Rattle.fillers.proofs.put_kind.Goals as goal

pub header_of-requires : goal.header_of-requires
header_of-requires c =
    let h = somewhere c.args.list (number c.args.kind) c.args.place (sym c.has_any.ensures ∙ c.if-has_any.true) in
    omega (arith, (c.requires.b_len_bound.1 h.0).0, header-bytes _ (one_of-eight c.args.kind).0 (one_of-eight c.args.kind).1)

pub put_rows-requires : goal.put_rows-requires
put_rows-requires c =
    let h = somewhere c.args.list (number c.args.kind) c.args.place (sym c.has_any.ensures ∙ c.if-has_any.true) in
    let s = c.requires.b_len_bound.1 h.0 in record { header_in_bounds = (s.0, c.requires.b_len_bound.0); b_value = rw c.header_of.ensures s.1; kind_value = h.1; tables_room = subst (λ (ts : List Table). TablesRoom c.args.list c.args.number c.args.before.now ts c.args.area.now) (kept-only _ _ _ _ c.header_of.ensures h.0) c.requires.tables_room }

pub returns-then-has_any : goal.returns-then-has_any
returns-then-has_any c =
    let h = somewhere c.args.list (number c.args.kind) c.args.place (sym c.has_any.ensures ∙ c.if-has_any.true) in
    rw (kept-only _ _ _ _ c.header_of.ensures h.0) c.put_rows.ensures

pub returns : goal.returns
returns c =
    kind-none _ c.args.list (number c.args.kind) c.args.place _ _ _ c.requires.b_len_bound.1 (sym c.has_any.ensures ∙ c.if-has_any.false)
