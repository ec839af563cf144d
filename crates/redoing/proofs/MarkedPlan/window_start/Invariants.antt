use Prim.Native.Nat.{◌≤◌}
use lib.ListN.{length}
use Rattle.redoing.specs.RedoStages.{NoneDepends}
use Rattle.redoing.proofs.MarkedPlan.window_start.Given as goal

abbrev pub invariant-loop-i : goal.invariant-loop-i
invariant-loop-i l = (l.i ≤ length l.self.plan.now) × NoneDepends l.self.square.now l.self.n l.d l.self.plan.now 0 l.i
