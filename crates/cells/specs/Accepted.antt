-- What holds of a table of n labels that Read accepts: all that planning and evaluation lean on.
use Rattle.std.specs.Prelude.{◌≡◌, true, false, List, ℕ, ◌+◌, ◌-◌, ◌*◌, ◌≤◌, ◌<◌, ℤ, pos, nat_abs, length}
use Rattle.cells.specs.Limits.{label_limit, number_limit}
use Rattle.kinds.specs.Kinds.{group_code, number_code, is_kind, operand_a, operand_b, operand_c, wanted_by, takes, argument_place}
use Rattle.cells.specs.Cells.{int_at}
use Rattle.cells.specs.Table.{cell, kind, is_definition, is_expression, has_body, has_path, field_a, field_b, field_c, owner, target, line_number}

abbrev pub HasBody : List ℤ → ℕ → Type 0
HasBody t l = has_body t l ≡ true

-- x, the body or an operand of line l, is an expression with a label above l, and d owns it
pub record Part (t : List ℤ) (n l d x : ℕ) : Type 0 where
  pub above : l < x
  pub label : x ≤ n
  pub expression : is_expression t x ≡ true
  pub owned : owner t x ≡ d

pub record Accepted (t : List ℤ) (n : ℕ) : Type 0 where
  pub some : 1 ≤ n
  pub few : n ≤ label_limit
  pub room : 8 * n ≤ length t
  -- unused cells are zero
  pub unused : (i : ℕ) → 8 * n ≤ i → int_at t i ≡ pos 0
  -- no cell is negative, but for the number of an N line
  pub natural : (l j : ℕ) → 1 ≤ l → l ≤ n → j < 8 → (kind t l ≡ number_code → j ≡ 3 → ⊥) → int_at t (8 * (l - 1) + j) ≡ pos (cell t l j)
  pub kinds : (l : ℕ) → 1 ≤ l → l ≤ n → is_kind (kind t l) ≡ true
  -- label 1 is the outermost Group
  pub root : kind t 1 ≡ group_code
  pub top : owner t 1 ≡ 0
  pub falls : (l : ℕ) → 1 ≤ l → l ≤ n → owner t l < l
  -- a definition's owner is its Group
  pub group : (l : ℕ) → 2 ≤ l → l ≤ n → is_definition t l ≡ true → kind t (owner t l) ≡ group_code
  -- an expression's owner has a body, and an argument's owner is given it
  pub owners : (l : ℕ) → is_expression t l ≡ true → HasBody t (owner t l)
  pub argument : (l : ℕ) → argument_place (kind t l) ≤ takes (kind t (owner t l))
  -- bodies and operands
  pub body : (l : ℕ) → HasBody t l → Part t n l l (field_b t l)
  pub first : (l : ℕ) → operand_a (kind t l) ≡ true → Part t n l (owner t l) (field_a t l)
  pub second : (l : ℕ) → operand_b (kind t l) ≡ true → Part t n l (owner t l) (field_b t l)
  pub third : (l : ℕ) → operand_c (kind t l) ≡ true → Part t n l (owner t l) (field_c t l)
  -- a path leads to what its line needs; no other line has a target
  pub leads : (l : ℕ) → has_path t l ≡ true → kind t (target t l) ≡ wanted_by (kind t l)
  pub others : (l : ℕ) → has_path t l ≡ false → target t l ≡ 0
  -- an N line's number is in range
  pub number : (l : ℕ) → kind t l ≡ number_code → nat_abs (line_number t l) ≤ number_limit
