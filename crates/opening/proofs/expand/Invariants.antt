use mathlib.Core.Path.{◌≡◌}
use lib.ListN.{length}
use Rattle.splitting.proofs.Linking.{Expanding}
use Rattle.opening.proofs.expand.Given as goal

abbrev pub invariant-loop-b : goal.invariant-loop-b
invariant-loop-b l = (length l.out ≡ length l.initial.out) × Expanding l.n l.links l.order l.out l.b-index l.m
