use native.Mathlib.Omega.{arith}
use lib.IntN.{pos, +ℤ_idl}
use mir.Facts.{to_z-of_z, to_z_pos}
use mir.Syntax.{w64}
use Rattle.cells.proofs.Signed.{neg_fits}
use Rattle.cells.proofs.with_sign.Goals as goal

pub overflow_sub-result : goal.overflow_sub-result
overflow_sub-result c = rw (to_z_pos w64 {n = c.args.m} (omega arith), +ℤ_idl) (neg_fits (pos c.args.m) c.requires)

pub returns-then-negative : goal.returns-then-negative
returns-then-negative c = rw (to_z_pos w64 {n = c.args.m} (omega arith), +ℤ_idl, to_z-of_z {w = w64} (neg_fits (pos c.args.m) c.requires), c.if-negative.true)

pub returns-else-negative : goal.returns-else-negative
returns-else-negative c = rw (to_z_pos w64 {n = c.args.m} (omega arith), c.if-negative.false)
