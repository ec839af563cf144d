use mathlib.Core.Path.{◌∙◌}
use Rattle.refusals.proofs.OrElse.{or_next}
use Rattle.paths.proofs.Joining.{targets_checked}
use Rattle.paths.proofs.resolve_later.Goals as goal

pub returns : goal.returns
returns c =
    let p = c.requires in
    let a = c.args in
    let e = c.settle_targets.ensures.table_after c.in_ok-settle_targets.was in
    let checked = targets_checked a.index.text.now a.table.now c.settle_targets.new.table a.index.n e p.searchable.0.room in record {
      value = or_next _ _ _ _ c.settle_targets.ensures.value c.in_ok-settle_targets.was (c.check_targets.ensures ∙ checked);
      table_after = λ _. e;
    }
