use mathlib.Core.Path.{sym, ◌∙◌}
use Prim.Native.Nat.{◌-◌, ◌≤◌}
use native.Mathlib.Omega.{arith}
use lib.ListN.{set, length-set}
use Rattle.groups.proofs.Chains.{linked_skip, linked_push}
use Rattle.groups.proofs.link_members.Goals as goal
use Rattle.groups.proofs.link_members.Goals.{In-loop-l}

-- in a turn: the label at hand
label : (c : In-loop-l) → (1 ≤ c.loop-l.l - 1) × (c.loop-l.l - 1 ≤ c.args.sheet.n)
label c = (omega (arith, c.loop-l-test.true), omega (arith, c.loop-l.auto.l))

pub loop-l-preserved-then-is_definition : goal.loop-l-preserved-then-is_definition
loop-l-preserved-then-is_definition c =
    let inv = c.loop-l.invariant in
    let b = label (goal.at.loop-l-preserved-then-is_definition c).In-loop-l in
    let o = c.cell-o.ensures in (
      length-set (set c.loop-l.next _ _) _ _ ∙ length-set c.loop-l.next _ _ ∙ inv.0,
      linked_push _ _ _ b.0 b.1 _ inv.1 (sym c.is_definition.ensures ∙ c.if-is_definition.true) (omega (arith, c.requires.0, inv.0))
          (omega (arith, c.args.sheet.accepted.falls _ b.0 b.1, b.1)) _ o,
    )

pub loop-l-preserved : goal.loop-l-preserved
loop-l-preserved c =
    let b = label (goal.at.loop-l-preserved c).In-loop-l in
    (c.loop-l.invariant.0, linked_skip _ _ _ b.0 b.1 _ c.loop-l.invariant.1 (sym c.is_definition.ensures ∙ c.if-is_definition.false))
