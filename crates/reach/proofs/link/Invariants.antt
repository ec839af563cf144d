use Prim.Native.Nat.{◌-◌}
use Rattle.reach.specs.Chains.{ChainedTo}
use Rattle.reach.proofs.link.Given as goal

abbrev pub invariant-loop-l : goal.invariant-loop-l
invariant-loop-l l = ChainedTo l.sheet.cells.now l.sheet.n l.column (l.l - 1) l.chains
