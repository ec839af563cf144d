use native.Mathlib.Omega.{arith}
use Rattle.std.proofs.lemmas.Grind.{common_steps}
use Rattle.following.proofs.Places.{order_told}
use Rattle.following.proofs.check_list.Goals as goal

pub returns-in_err-told_at : goal.returns-in_err-told_at
returns-in_err-told_at c = rw (order_told, ← c.listed_place.ensures, ← c.told_at.ensures) (grind (arith, common_steps))

pub returns : goal.returns
returns c = rw (order_told, ← c.listed_place.ensures, ← c.told_at.ensures, ← c.early_place.ensures, ← c.told_at-2.ensures) (grind (arith, common_steps))
