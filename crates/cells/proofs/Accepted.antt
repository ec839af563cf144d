-- The labels of an accepted table, which alone have a kind, a body or a path; and reaching is transitive.
use mathlib.Core.Path.{◌≡◌, refl, ap, ◌∙◌}
use mathlib.Core.List.{List}
use Prim.Native.Nat.{ℕ, zero, suc, ◌+◌, ◌-◌, ◌*◌, ◌≤◌, ◌<◌}
use native.Mathlib.Omega.{arith}
use native.Mathlib.Decide.{dec_le}
use lib.IntN.{ℤ, pos}
use Rattle.kinds.proofs.Laws.{kind_low, definition_kind, expression_kind, body_definition, path_expression}
use Rattle.cells.specs.Cells.{nat_of, int_at}
use Rattle.cells.specs.Table.{cell, kind}
use Rattle.cells.specs.Accepted.{Accepted, HasBody}
use Rattle.cells.specs.Reaches.{HasPath, Reaches, once, then}

pub reaches_trans : {t : List ℤ} {a b c : ℕ} → Reaches t a b → Reaches t b c → Reaches t a c
reaches_trans r (once m) = then r m
reaches_trans r (then q m) = then (reaches_trans r q) m

module _ (t : List ℤ) (n : ℕ) (ok : Accepted t n) where
  pub cell_out : (l j : ℕ) → n < l → cell t l j ≡ 0
  cell_out zero j h = refl
  cell_out (suc k) j h = ap nat_of (ok.unused (8 * k + j) (omega arith))

  pub kind_label : (l : ℕ) → 1 ≤ kind t l → (1 ≤ l) × (l ≤ n)
  kind_label zero h = absurd (omega arith)
  kind_label (suc k) h = go (dec_le (suc k) n)
    where
      go : Dec (suc k ≤ n) → (1 ≤ suc k) × (suc k ≤ n)
      go (yes e) = (omega arith, e)
      go (no e) = absurd (omega (arith, cell_out (suc k) 0 (omega arith)))

  pub body_label : (d : ℕ) → HasBody t d → (1 ≤ d) × (d ≤ n)
  body_label d b = kind_label d (kind_low (kind t d) (definition_kind (kind t d) (body_definition (kind t d) b)))

  pub path_label : (l : ℕ) → HasPath t l → (1 ≤ l) × (l ≤ n)
  path_label l p = kind_label l (kind_low (kind t l) (expression_kind (kind t l) (path_expression (kind t l) p)))

-- the kind cell of a label holds a natural number
pub kind_cell : (t : List ℤ) (n : ℕ) → Accepted t n → (l : ℕ) → 1 ≤ l → l ≤ n → int_at t (8 * (l - 1)) ≡ pos (kind t l)
kind_cell t n ok l low high =
    let e : 8 * (l - 1) ≡ 8 * (l - 1) + 0 = omega arith in
    ap (int_at t) e ∙ ok.natural l 0 low high (omega arith) (λ k i. omega arith)
