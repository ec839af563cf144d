use mathlib.Core.Path.{◌≡◌, refl, sym, ap, ◌∙◌, subst}
use Prim.Native.Nat.{ℕ, ◌+◌, ◌≤◌}
use native.Mathlib.Omega.{arith}
use lib.ListN.{length, get_or, set, length-set}
use Rattle.order.specs.LabelLists.{◌∈◌}
use Rattle.splitting.proofs.Linking.{Linking, link_item, linking_turn, linking_all}
use Rattle.splitting.proofs.link_blocks.Goals as goal
use Rattle.splitting.proofs.link_blocks.Goals.{After-from-b, After-from-x}

-- in a turn: the item at hand, and its lead
module _ (c : After-from-x) where
  same : length c.loop-item.links ≡ length c.args.links.now
  same = c.loop-item.invariant.0 ∙ c.clear_cells.auto.cells

  item : c.from-x.result ∈ c.args.items.now
  item =
      subst (λ (x : ℕ). x ∈ c.args.items.now) (sym c.from-x.ensures)
      (link_item _ _ c.args.lead.now _ _ _ c.requires.1 same c.loop-item.invariant.1 _ _ _ c.in-Some.ensures.steps refl)

  label : (1 ≤ c.from-x.result) × (c.from-x.result ≤ c.args.n)
  label = c.requires.1.label c.from-x.result item

lead_label : (c : After-from-b) → c.from-x.result ∈ c.args.items.now → (1 ≤ c.from-b.result) × (c.from-b.result ≤ c.args.n)
lead_label c m =
    c.requires.1.label c.from-b.result
    (subst (λ (b : ℕ). b ∈ c.args.items.now) (sym c.from-b.ensures) (c.requires.1.item _ m))

pub bounds-lead-x : goal.bounds-lead-x
bounds-lead-x c = c.requires.1.leading _ (item (goal.at.bounds-lead-x c).After-from-x)

pub bounds-links-b : goal.bounds-links-b
bounds-links-b c =
    let k = goal.at.bounds-links-b c in
    omega (arith, lead_label k.After-from-b (item k.After-from-x), c.requires.1.room, same k.After-from-x)

pub bounds-links-n : goal.bounds-links-n
bounds-links-n c =
    let k = goal.at.bounds-links-n c in
    omega (arith, label k.After-from-x, c.requires.1.room, same k.After-from-x)

pub bounds-links-b-in-loop-item : goal.bounds-links-b-in-loop-item
bounds-links-b-in-loop-item c =
    let k = goal.at.bounds-links-b-in-loop-item c in
    omega (
      arith,
      lead_label k.After-from-b (item k.After-from-x),
      c.requires.1.room,
      same k.After-from-x,
      length-set c.loop-item.links (c.args.n + c.from-x.result) (get_or c.loop-item.links c.from-b.result 0),
    )

pub loop-item-preserved : goal.loop-item-preserved
loop-item-preserved c =
    let k = goal.at.loop-item-preserved c in
    let x = c.in-Some.field-0.now in
    let turn = linking_turn _ _ _ _ _ _ c.requires.1 (same k.After-from-x) c.loop-item.invariant.1 _ x _ c.in-Some.ensures.steps
    (c.from-b.ensures ∙ ap (λ (v : ℕ). get_or c.args.lead.now v 0) c.from-x.ensures) in (
      length-set (set c.loop-item.links _ _) _ _ ∙ length-set c.loop-item.links _ _ ∙ c.loop-item.invariant.0,
      subst (λ (v : ℕ). Linking c.args.n c.args.items.now c.args.lead.now c.next.new.self.iter.rest.now
          (set (set c.loop-item.links (c.args.n + v) (get_or c.loop-item.links c.from-b.result 0)) c.from-b.result x)) (sym c.from-x.ensures) turn,
    )

pub returns : goal.returns
returns c = linking_all _ _ _ _ _ c.in-None.ensures.steps.0 c.loop-item.invariant.1
