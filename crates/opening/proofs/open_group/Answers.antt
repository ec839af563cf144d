use Rattle.groups.proofs.Progress.{progress_turn}
use Rattle.opening.proofs.open_group.Goals as goal

pub returns : goal.returns
returns g c =
    let p = c.requires in
    let op = p.openable in (
      progress_turn _ _ c.args.sheet.accepted _ _ op.progress op.low op.high op.free _ _ c.split_group-m.ensures.chains_cleared.0 c.join_group.ensures.relinked,
      c.join_group.ensures.need_rows_from,
    )
