use native.Mathlib.Omega.{arith}
use Rattle.std.proofs.lemmas.Grind.{common_steps}
use Rattle.following.proofs.Places.{cycle_told}
use Rattle.following.proofs.check_in.Goals as goal

pub returns-in_err-told_at : goal.returns-in_err-told_at
returns-in_err-told_at c = rw (cycle_told, ← c.find_cycle.ensures.0, ← c.told_at.ensures) (grind (arith, common_steps))

pub returns : goal.returns
returns c = rw (cycle_told, ← c.find_cycle.ensures.0, ← c.told_at.ensures, ← c.check_list.ensures) (grind (arith, common_steps))
