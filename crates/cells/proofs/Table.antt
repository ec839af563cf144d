-- Laws of a table's cells: a cell by its index, and what a cell is after a store.
use mathlib.Core.Path.{◌≡◌, refl, ap, ◌∙◌}
use mathlib.Core.List.{List}
use mathlib.Core.Logic.{◌≢◌}
use Prim.Native.Nat.{ℕ, zero, suc, ◌+◌, ◌-◌, ◌*◌, ◌<◌, ◌≤◌}
use native.Mathlib.Omega.{arith}
use native.Mathlib.Nat.{not-suc-le-zero}
use lib.IntN.{ℤ, pos}
use lib.ListN.{length, set, get_or-eq_default}
use Rattle.cells.specs.Cells.{nat_of, nat_at}
use Rattle.cells.specs.Table.{cell}
use Rattle.cells.proofs.Stores.{int_at_put, int_at_other}

-- ---- a cell by its index. A label from 1 on is the `suc` of the label before

pub cell_at : (t : List ℤ) (l j : ℕ) → 1 ≤ l → cell t l j ≡ nat_at t (8 * (l - 1) + j)
cell_at t zero j h = absurd (not-suc-le-zero h)
cell_at t (suc k) j h = let e : suc k - 1 ≡ k = omega arith in rw e

pub cell_past : (t : List ℤ) (l j : ℕ) → length t ≤ 8 * (l - 1) + j → cell t l j ≡ 0
cell_past t zero j h = refl
cell_past t (suc k) j h = ap nat_of (get_or-eq_default t (pos 0) (omega arith))

-- ---- after a store at cell j of label l

-- two cells of a table have two indices
apart : (l j m i : ℕ) → 1 ≤ l → j < 8 → i < 8 → (suc m ≡ l → i ≡ j → ⊥) → 8 * m + i ≢ 8 * (l - 1) + j
apart l j m i h a b f e = f (omega arith) (omega arith)

pub cell_put : (t : List ℤ) (l j v : ℕ) → 1 ≤ l → 8 * l ≤ length t → j < 8 → cell (set t (8 * (l - 1) + j) (pos v)) l j ≡ v
cell_put t l j v h g a = cell_at (set t (8 * (l - 1) + j) (pos v)) l j h ∙ ap nat_of (int_at_put t (8 * (l - 1) + j) (pos v) (omega arith))

-- another label or another cell of the label
pub cell_other : (t : List ℤ) (l j m i : ℕ) (z : ℤ) → 1 ≤ l → j < 8 → i < 8 → (m ≡ l → i ≡ j → ⊥) → cell (set t (8 * (l - 1) + j) z) m i ≡ cell t m i
cell_other t l j zero i z h a b f = refl
cell_other t l j (suc m) i z h a b f = ap nat_of (int_at_other t (8 * (l - 1) + j) (8 * m + i) z (apart l j m i h a b f))
