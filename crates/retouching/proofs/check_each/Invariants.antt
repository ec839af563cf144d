use mathlib.Core.Path.{◌≡◌}
use Prim.Native.Nat.{◌+◌, ◌-◌, ◌≤◌}
use Rattle.refusals.specs.Refusal.{first_bad}
use Rattle.redoing.specs.Pairs.{pair_count}
use Rattle.retouching.specs.Retouch.{pair_bad}
use Rattle.retouching.proofs.check_each.Given as goal

abbrev pub invariant-loop-k : goal.invariant-loop-k
invariant-loop-k l =
    (1 ≤ l.k) × (l.k ≤ pair_count l.pairs + 1)
    × (first_bad (pair_bad l.table l.pairs) l.k (pair_count l.pairs + 1 - l.k) ≡ first_bad (pair_bad l.table l.pairs) 1 (pair_count l.pairs))
