use Rattle.std.proofs.Common.{arith, sym, ◌∙◌, ℕ, ◌+◌, ◌≤◌, subst}
use lib.ListN.{set, length-set}
use Rattle.groups.proofs.Chains.{Relinking, relinking_item, relinking_turn, relinked}
use Rattle.groups.proofs.relink.Goals as goal
use Rattle.groups.proofs.relink.Goals.{After-from}

-- in a turn: the label at hand
label : (c : After-from) → (1 ≤ c.from.result) × (c.from.result ≤ c.args.n)
label c =
    subst (λ (x : ℕ). (1 ≤ x) × (x ≤ c.args.n)) (sym c.from.ensures)
    (c.requires.by_index.0 _ (relinking_item _ _ _ _ _ _ c.loop-x.invariant.1 _ _ c.in-Some.ensures.steps))

pub bounds-next-n : goal.bounds-next-n
bounds-next-n c = omega (arith, label (goal.at.bounds-next-n c).After-from, c.requires.n_le_label_limit.2, c.loop-x.invariant.0)

pub loop-x-preserved : goal.loop-x-preserved
loop-x-preserved c =
    let x = c.in-Some.field-0.now in
    let b = subst (λ (v : ℕ). (1 ≤ v) × (v ≤ c.args.n)) c.from.ensures (label (goal.at.loop-x-preserved c).After-from) in (
      length-set c.loop-x.next _ _ ∙ c.loop-x.invariant.0,
      subst (λ (v : ℕ). Relinking c.args.n c.args.next.now c.args.order.now c.next.new.self.iter.rest.now (set c.loop-x.next (c.args.n + v) c.loop-x.head) x) (sym c.from.ensures)
          (relinking_turn _ _ _ _ _ _ c.loop-x.invariant.1 _ x c.in-Some.ensures.steps b.0 (omega (arith, b, c.requires.n_le_label_limit.2, c.loop-x.invariant.0))
          (c.requires.by_index.1 x)),
    )

pub returns : goal.returns
returns c =
    relinked _ _ _ _ _ _ c.loop-x.invariant.1 _ c.in-None.ensures.steps.0 c.requires.n_le_label_limit.1
    (omega (arith, c.requires.n_le_label_limit, c.loop-x.invariant.0)) (λ x m. (c.requires.by_index.0 x m).0)
