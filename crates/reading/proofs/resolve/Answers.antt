-- Rows 8 to 11, then rows 12 to 15.
use Rattle.std.proofs.lemmas.Result.{err_from_is_err_and}
use Rattle.reading.proofs.Resolved.{plain, paths_rows, resolved_fine, resolved_refused}
use Rattle.reading.proofs.resolve.Goals as goal

pub read_tree-requires : goal.read_tree-requires
read_tree-requires c = plain _ _ _ c.requires

pub read_paths-requires : goal.read_paths-requires
read_paths-requires c = paths_rows _ c.args.table.now _ _ _ c.read_tree.ensures.value c.requires c.in_ok-read_tree.was c.read_tree.ensures.written

pub returns-in_err-read_tree : goal.returns-in_err-read_tree
returns-in_err-read_tree c =
    let p = err_from_is_err_and c.from_residual.result c.from_residual.ensures.1 in
    rw (p.1, p.2) (resolved_refused _ c.args.table.now _ _ c.read_tree.new.table c.read_tree.ensures.value _ _ c.in_err-read_tree.was)

pub returns : goal.returns
returns c =
    resolved_fine _ c.args.table.now _ _ _ c.read_tree.ensures.value _ _
    c.in_ok-read_tree.was c.read_tree.ensures.written c.read_paths.ensures.value c.read_paths.ensures.table_after
