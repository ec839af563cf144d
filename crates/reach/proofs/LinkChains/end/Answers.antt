use mathlib.Core.Path.{sym, subst}
use native.Mathlib.Omega.{arith}
use Rattle.cells.specs.Accepted.{HasBody}
use Rattle.reach.proofs.Links.{column_of, path_label, end_body}
use Rattle.reach.proofs.LinkChains.end.Goals as goal

pub cell-requires : goal.cell-requires
cell-requires c =
    let b = path_label _ _ c.args.self.now.sheet.accepted _ c.requires in
    let j = c.args.self.now.column_is in
    (b.0, b.1, omega (arith, j), omega (arith, j))

pub returns-clause-has_body : goal.returns-clause-has_body
returns-clause-has_body c =
    let body = end_body _ _ c.args.self.now.sheet.accepted _ c.args.line (column_of _ c.args.self.now.column_is) c.requires in
    subst (HasBody c.args.self.now.sheet.cells.now) (sym c.cell.ensures) body
