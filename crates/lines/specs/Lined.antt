-- What holds of the table that rows 1 to 7 leave.
use Rattle.std.specs.Prelude.{◌≡◌, true, List, ◌++◌, ℕ, ◌+◌, ◌-◌, ◌*◌, ◌≤◌, ◌<◌, ℤ, pos, nat_abs, length}
use Rattle.cells.specs.Limits.{label_limit, number_limit}
use Rattle.cells.specs.Cells.{int_at, zeros}
use Rattle.cells.specs.Table.{cell, kind, name_start, name_length, field_a, field_b, field_c, line_number}
use Rattle.kinds.specs.Kinds.{group_code, number_code, fields_at, is_kind}
use Rattle.lines.specs.Lines.{labels, lines_cells}
use Rattle.kinds.specs.declared.Form.TheVariants.{Operand}

-- the cells of all lines, and zeros up to m cells
unfoldable pub lined_table : List ℕ → ℕ → List ℤ
lined_table s m = lines_cells s (labels s) (labels s) ++ zeros (m - 8 * labels s)

pub record Lined (s : List ℕ) (t : List ℤ) (n : ℕ) : Type 0 where
  pub some : 1 ≤ n
  pub few : n ≤ label_limit
  pub room : 8 * n ≤ length t
  -- unused cells are zero
  pub unused : (i : ℕ) → 8 * n ≤ i → int_at t i ≡ pos 0
  -- no cell is negative, but for the number of an N line
  pub natural : (l j : ℕ) → 1 ≤ l → l ≤ n → j < 8 → (kind t l ≡ number_code → j ≡ 3 → ⊥) → int_at t (8 * (l - 1) + j) ≡ pos (cell t l j)
  pub kinds : (l : ℕ) → 1 ≤ l → l ≤ n → is_kind (kind t l) ≡ true
  -- label 1 is the outermost Group
  pub root : kind t 1 ≡ group_code
  pub top : field_a t 1 ≡ 0
  -- every name field lies in the text
  pub names : (l : ℕ) → name_start t l + name_length t l ≤ length s
  -- a body or operand field holds a label
  pub a : (l : ℕ) → 1 ≤ l → l ≤ n → (fields_at (kind t l)).a ≡ Operand → 1 ≤ field_a t l
  pub b : (l : ℕ) → 1 ≤ l → l ≤ n → (fields_at (kind t l)).b ≡ Operand → 1 ≤ field_b t l
  pub c : (l : ℕ) → 1 ≤ l → l ≤ n → (fields_at (kind t l)).c ≡ Operand → 1 ≤ field_c t l
  -- owner and target are still to be written
  pub blank : (k j : ℕ) → k < n → 6 ≤ j → j < 8 → int_at t (8 * k + j) ≡ pos 0
  -- an N line's number is in range
  pub number : (l : ℕ) → kind t l ≡ number_code → nat_abs (line_number t l) ≤ number_limit
