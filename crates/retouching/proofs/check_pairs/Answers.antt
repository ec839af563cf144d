use Rattle.std.proofs.lemmas.Result.{err_from_is_err_and}
use Rattle.retouching.proofs.Rows.{pairs_next, pairs_stop}
use Rattle.retouching.proofs.check_pairs.Goals as goal

pub returns-in_err-check_list : goal.returns-in_err-check_list
returns-in_err-check_list c =
    let p = err_from_is_err_and c.from_residual.result c.from_residual.ensures.1 in
    rw (p.1, p.2) (pairs_stop c.args.table.now c.args.pairs.now c.check_list.ensures c.in_err-check_list.was)

pub returns : goal.returns
returns c = pairs_next c.args.table.now c.args.pairs.now c.check_list.ensures c.in_ok-check_list.was c.check_each.ensures
