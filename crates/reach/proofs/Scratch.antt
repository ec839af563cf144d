-- Scratch arrays of zeros.
use Prim.Native.Nat.{ℕ, ◌+◌, ◌*◌, ◌≤◌}
use native.Mathlib.Omega.{arith}
use lib.ListN.{length, replicate}
use Rattle.cells.proofs.Scratch.{long, zero_at}
use Rattle.marks.proofs.Squares.{marks_none}
use Rattle.reach.specs.MarkRows.{width, Blank}

-- a square of k words has a row for each of n labels where they fit in it, and in no row a mark
pub zero_square : (n k : ℕ) → (n + 1) * width n ≤ k → ((n + 1) * width n ≤ length (replicate {0} {A = ℕ} k 0)) × ((d : ℕ) → Blank n (replicate k 0) d)
zero_square n k h = (omega (arith, h, long k), λ d q. marks_none (replicate k 0) (zero_at k) (width n) d q)
