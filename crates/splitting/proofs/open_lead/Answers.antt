use Rattle.std.proofs.Common.{rules}
use mathlib.Core.Path.{sym, subst}
use mathlib.Core.List.{List}
use Prim.Native.Nat.{ℕ, ◌≤◌}
use native.Mathlib.Omega.{arith}
use Rattle.order.specs.LabelLists.{◌∈◌, count}
use Rattle.groups.proofs.Expanded.{plan_label, plan_once, values_few}
use Rattle.splitting.proofs.open_lead.Goals as goal

pub shared_whole_as_front-relink : goal.shared_whole_as_front-relink
shared_whole_as_front-relink g c =
    let a = c.args in
    let p = c.requires in
    (omega (arith, values_few _ _ c.args.sheet.accepted a.group a.b, c.open_block-r.ensures.placed.within, p.room.labels), search rules)

pub relink-requires-clause-by_index : goal.relink-requires-clause-by_index
relink-requires-clause-by_index g c =
    let a = c.args in
    let p = c.requires in
    let e = c.open_block-r.ensures.placed in (
      λ x i. plan_label _ _ c.args.sheet.accepted a.group a.b x (subst (λ (l : List ℕ). x ∈ l) e.cells i),
      λ x. subst (λ (l : List ℕ). count x l ≤ 1) (sym e.cells) (plan_once _ _ c.args.sheet.accepted a.group a.b x),
    )
