use Rattle.std.proofs.Common.{rules}
use mathlib.Core.Path.{sym, subst}
use mathlib.Core.List.{List}
use Prim.Native.Nat.{ℕ, ◌≤◌}
use native.Mathlib.Omega.{arith}
use Rattle.order.specs.LabelLists.{count, ◌∈◌}
use Rattle.groups.specs.Members.{Gathered, Relinked}
use Rattle.groups.specs.Opened.{expanded}
use Rattle.groups.proofs.Expanded.{expanded_label, expanded_once}
use Rattle.splitting.specs.Leaders.{LeaderChains}
use Rattle.splitting.proofs.Ordering.{order_chains, all_expanded}
use Rattle.opening.proofs.join_group.Given.{Over}
use Rattle.opening.proofs.join_group.Goals as goal
use Rattle.opening.proofs.join_group.Goals.{After-order_blocks-k, After-expand-r}

chains : (g : Over) → (c : After-order_blocks-k g) → LeaderChains c.args.sheet.cells.now c.args.sheet.n c.args.group c.order_blocks-k.new.search.links
chains g c = subst (LeaderChains c.args.sheet.cells.now c.args.sheet.n c.args.group) (sym c.order_blocks-k.ensures.links_kept) c.requires.led_members.1

joined : (g : Over) → (c : After-expand-r g) → Gathered (expanded c.args.sheet.cells.now c.args.sheet.n c.args.group) c.expand-r.new.out c.expand-r.result
joined g c =
    let p = c.requires in
    all_expanded _ _ c.args.sheet.accepted c.args.group _ _ _ _ _
    (subst (LeaderChains c.args.sheet.cells.now c.args.sheet.n c.args.group) (sym c.order_blocks-k.ensures.links_kept) p.led_members.1) c.order_blocks-k.ensures.gathered c.expand-r.ensures

pub expand-r-requires-clause-chains : goal.expand-r-requires-clause-chains
expand-r-requires-clause-chains g c =
    let p = c.requires in
    order_chains _ _ c.args.sheet.accepted c.args.group _ _ _ _ (chains g (goal.at.expand-r-requires-clause-chains g c).After-order_blocks-k) c.order_blocks-k.ensures.gathered
    (omega (arith, p.room.0.labels, c.order_blocks-k.new.search.labels.1))

pub shared_whole_as_front-relink : goal.shared_whole_as_front-relink
shared_whole_as_front-relink g c = (omega (arith, (joined g (goal.at.shared_whole_as_front-relink g c).After-expand-r).within, c.expand-r.auto.out, c.order_blocks-k.new.search.labels.1), search rules)

pub relink-requires-clause-by_index : goal.relink-requires-clause-by_index
relink-requires-clause-by_index g c =
    let p = c.requires in
    let e = joined g (goal.at.relink-requires-clause-by_index g c).After-expand-r in (
      λ x i. expanded_label _ _ c.args.sheet.accepted c.args.group x (subst (λ (l : List ℕ). x ∈ l) e.cells i),
      λ x. subst (λ (l : List ℕ). count x l ≤ 1) (sym e.cells) (expanded_once _ _ c.args.sheet.accepted c.args.group x),
    )

pub returns-clause-relinked : goal.returns-clause-relinked
returns-clause-relinked g c =
    let a = c.args in
    subst (λ (l : List ℕ). Relinked a.sheet.n a.group l a.next.now c.relink.new.next) (joined g (goal.at.returns-clause-relinked g c).After-expand-r).cells c.relink.ensures
