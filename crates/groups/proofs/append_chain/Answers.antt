use mathlib.Core.Path.{refl, ◌∙◌}
use Prim.Native.Nat.{◌≤◌}
use native.Mathlib.Omega.{arith}
use lib.ListN.{length-set}
use Rattle.groups.proofs.Chains.{walk_start, walk_label, walk_step, walk_end}
use Rattle.groups.proofs.append_chain.Goals as goal
use Rattle.groups.proofs.append_chain.Goals.{In-loop-p}

module _ (c : In-loop-p) where
  label :
      (1 ≤ c.loop-p.p) × (c.loop-p.p ≤ c.args.n)
  label = walk_label _ _ _ _ _ _ _ c.loop-p.invariant.1 c.loop-p-test.true

pub loop-p-init : goal.loop-p-init
loop-p-init c = (refl, walk_start _ _ _ _ _ c.requires.n_le_label_limit.3 c.requires.walkable_chain)

pub overflow_add-p : goal.overflow_add-p
overflow_add-p c = omega (arith, label (goal.at.overflow_add-p c).In-loop-p, c.from.ensures, c.requires.n_le_label_limit.0)

pub offset_bounds-next-n : goal.offset_bounds-next-n
offset_bounds-next-n c = omega (arith, label (goal.at.offset_bounds-next-n c).In-loop-p, c.from.ensures, c.requires.n_le_label_limit.0)

pub bounds-next-n : goal.bounds-next-n
bounds-next-n c = omega (arith, label (goal.at.bounds-next-n c).In-loop-p, c.from.ensures, c.requires.n_le_label_limit.2)

pub loop-p-preserved : goal.loop-p-preserved
loop-p-preserved c =
    rw c.from.ensures (
      length-set c.loop-p.items _ _
          ∙ c.loop-p.invariant.0,
      walk_step _ _ _ _ _ _ _ c.loop-p.invariant.1 c.loop-p-test.true,
    )

pub returns : goal.returns
returns c = walk_end _ _ _ _ _ _ _ c.loop-p.invariant.1 c.loop-p-test.false
