use mir.Syntax.{w64}
use native.Mathlib.Omega.{arith}
use native.Mathlib.Numerals.{towards_suc}
use lib.ListN.{length-set}
use mir.Facts.{to_z-of_z}
use Rattle.cells.proofs.put_three.Goals as goal

pub bounds-t-i-2 : goal.bounds-t-i-2
bounds-t-i-2 c = simp length-set (omega arith)

pub bounds-t-i-3 : goal.bounds-t-i-3
bounds-t-i-3 c = simp length-set (omega arith)

pub returns : goal.returns
returns c = simp (towards_suc, to_z-of_z {w = w64} c.ranges.x, to_z-of_z {w = w64} c.ranges.y, to_z-of_z {w = w64} c.ranges.z)
