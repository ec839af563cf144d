use Rattle.std.proofs.Common.{rules}
use mathlib.Core.Path.{refl, sym, ◌∙◌, subst}
use mathlib.Core.List.{List}
use Prim.Native.Nat.{ℕ}
use native.Mathlib.Omega.{arith}
use lib.ListN.{take}
use lib.Seq.{take_all}
use Rattle.order.specs.LabelLists.{◌∈◌}
use Rattle.splitting.proofs.Opening.{block_chains_of, opening_none, opening_all, here, block_chain, block_chains, test_opens, test_leaves, opening_skip, opening_turn}
use Rattle.splitting.proofs.open_blocks.Given.{Over}
use Rattle.splitting.proofs.open_blocks.Goals as goal
use Rattle.splitting.proofs.open_blocks.Goals.{After-from-x, else-leads_several, then-leads_several}

-- in a turn: the member at hand
item : (g : Over) → (c : After-from-x g) → c.from-x.result ∈ c.args.items.now
item g c =
    let p = c.requires in
    let led = p.led_members.0 in
    subst (λ (l : List ℕ). c.from-x.result ∈ l) (sym led.are)
    (here _ _ c.args.sheet.accepted _ _ _ led.led _ led.are _ _ c.loop-item-test.true c.from-x.ensures _ _ c.loop-item.invariant.3)

pub loop-item-init : goal.loop-item-init
loop-item-init g c =
    let p = c.requires in
    let led = p.led_members.0 in
    (refl, refl, refl, opening_none _ _ c.args.sheet.accepted _ _ _ led.led _ (block_chains_of _ _ _ _ _ _ led p.block_chains.0))

pub leads_several-requires : goal.leads_several-requires
leads_several-requires g c =
    let p = c.requires in
    let i = item g (goal.at.leads_several-requires g c).After-from-x in
    (c.args.sheet.accepted.few, (p.led_members.1.label _ i).1, p.led_members.1.leading _ i, omega (arith, p.n_in_bounds.1, c.loop-item.invariant.1))

pub open_lead-requires : goal.open_lead-requires
open_lead-requires g c =
    let p = c.requires in
    let led = p.led_members.0 in
    let op = p.block_chains.1 in
    let inv = c.loop-item.invariant in
    let i = item g (goal.at.open_lead-requires g c).After-from-x in
    let s = test_opens _ _ c.args.sheet.accepted _ _ _ led.led _ led.are _ _ c.loop-item-test.true c.from-x.ensures _ _ inv.3 (sym c.leads_several.ensures ∙ c.if-leads_several.true) in (
      search rules,
      (
        p.no_cycle,
        (
          ((p.led_members.1.label _ i).1, omega (arith, p.n_in_bounds.0, inv.0), omega (arith, p.n_in_bounds.1, inv.1), omega (arith, p.n_in_bounds.2, inv.2)),
          (
            p.room,
            (
              p.n_in_bounds_2,
              (
                block_chain _ _ c.args.sheet.accepted _ _ _ led.led _ led.are _ _ c.loop-item-test.true c.from-x.ensures _ _ inv.3 s.0,
                block_chains _ _ c.args.sheet.accepted _ _ _ led.led _ led.are _ _ c.loop-item-test.true c.from-x.ensures _ _ inv.3 s.0 s.1 op.low op.free op.progress,
              ),
            ),
          ),
        ),
      ),
    )

pub loop-item-preserved : goal.loop-item-preserved
loop-item-preserved g c =
    let p = c.requires in
    let led = p.led_members.0 in
    let inv = c.loop-item.invariant in
    elim c.if-leads_several.branch [
      | then-leads_several w ↦
          let s = test_opens _ _ c.args.sheet.accepted _ _ _ led.led _ led.are _ _ c.loop-item-test.true c.from-x.ensures _ _ inv.3 (sym c.leads_several.ensures ∙ w.if-leads_several.true) in
          rw (w.next-is, w.links-is, w.pile-is) (
            w.open_lead.auto.next ∙ inv.0,
            w.open_lead.auto.links ∙ inv.1,
            w.open_lead.auto.pile ∙ inv.2,
            opening_turn _ _ c.args.sheet.accepted _ _ _ led.led _ led.are _ _ c.loop-item-test.true c.from-x.ensures _ _ inv.3 s.0 s.1 _ _
                w.open_lead.ensures.chains_cleared w.open_lead.ensures.relinked,
          )
      | else-leads_several w ↦ rw (w.next-is, w.links-is, w.pile-is) (
        inv.0,
        inv.1,
        inv.2,
        opening_skip _ _ c.args.sheet.accepted _ _ _ led.led _ led.are _ _ c.loop-item-test.true c.from-x.ensures _ _ inv.3
            (test_leaves _ _ c.args.sheet.accepted _ _ _ led.led _ led.are _ _ c.loop-item-test.true c.from-x.ensures _ _ inv.3 (sym c.leads_several.ensures ∙ w.if-leads_several.false)),
      )
    ]

pub returns : goal.returns
returns g c =
    let p = c.requires in
    let led = p.led_members.0 in
    opening_all _ _ c.args.sheet.accepted _ _ _ led.led (take c.loop-item.item-index c.args.items.now) _ _
    (λ x m. subst (λ (l : List ℕ). x ∈ l) (sym led.are ∙ sym (take_all c.loop-item.item-index c.args.items.now (omega (arith, c.loop-item-test.false)))) m) c.loop-item.invariant.3
