use Rattle.std.proofs.Common.{◌≡◌, ℕ, ◌+◌, ◌*◌, get_or}
use Rattle.placing.proofs.Counts.{below}
use Rattle.placing.proofs.raise.Given as goal

abbrev pub invariant-loop-j : goal.invariant-loop-j
invariant-loop-j l = (p : ℕ) → get_or l.unmet p 0 ≡ get_or l.initial.unmet p 0 + below l.square l.mask l.w l.q (64 * l.j) p
