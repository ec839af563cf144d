-- What the tree's rows ask of a table, and what they give.
use Rattle.std.specs.Prelude.{◌≡◌, true, List, ℕ, ◌+◌, ◌*◌, ◌≤◌, ◌<◌, ℤ, pos, length, Ok, Err}
use Rattle.cells.specs.Limits.{label_limit, level_limit}
use Rattle.cells.specs.Cells.{int_at}
use Rattle.cells.specs.Lists.{count}
use Rattle.cells.specs.Table.{kind, is_definition, is_expression, field_a, with_column}
use Rattle.cells.specs.Accepted.{HasBody}
use Rattle.kinds.specs.Kinds.{group_code, is_kind, takes, argument_place}
use Rattle.refusals.specs.Refusal.{Verdict}
use Rattle.tree.specs.Tree.{parts, uses, IsPart, Owned, Level, definition_of, owner_of, level_of}

-- the lines of a table of n labels that passed rows 1 to 7
pub record Formed (t : List ℤ) (n : ℕ) : Type 0 where
  pub few : n ≤ label_limit
  pub room : 8 * n ≤ length t
  pub kinds : (l : ℕ) → 1 ≤ l → l ≤ n → is_kind (kind t l) ≡ true
  pub unused : (l : ℕ) → n < l → kind t l ≡ 0
  -- a body or operand field holds a label, and label 1 has no Group
  pub labels : (l : ℕ) → 1 ≤ l → l ≤ n → count 0 (parts t l) ≡ 0
  pub top : field_a t 1 ≡ 0

-- and nothing is written of owners and targets yet
pub record Plain (t : List ℤ) (n : ℕ) : Type 0 where
  pub formed : Formed t n
  pub blank : (k j : ℕ) → k < n → 6 ≤ j → j < 8 → int_at t (8 * k + j) ≡ pos 0

-- the table that is left: with each label's owner where nothing is refused; else of its length only
abbrev pub Written : Verdict → List ℤ → ℕ → List ℤ → Type 0
Written (Ok u) t n w = w ≡ with_column 6 (owner_of t n) n t
Written (Err e) t n w = length w ≡ length t

-- x is a body or operand of line l, in a table that passes rows 8 to 11
pub record PartOf (t : List ℤ) (n l x : ℕ) : Type 0 where
  pub above : l < x
  pub label : x ≤ n
  pub expression : is_expression t x ≡ true
  pub owner : owner_of t n x ≡ definition_of t n l
  pub level : level_of t n x ≡ level_of t n l + 1

-- a table of n labels that passes rows 8 to 11
pub record Treed (t : List ℤ) (n : ℕ) : Type 0 where
  -- a definition's Group is a G with a smaller label; label 1 has none
  pub groups : (l : ℕ) → 2 ≤ l → l ≤ n → is_definition t l ≡ true → kind t (owner_of t n l) ≡ group_code
  pub falls : (l : ℕ) → 1 ≤ l → l ≤ n → owner_of t n l < l
  pub part : (l x : ℕ) → IsPart t l x → PartOf t n l x
  -- the definition that a line stands in: a definition itself, an expression's owner
  pub itself : (l : ℕ) → is_definition t l ≡ true → definition_of t n l ≡ l
  pub standing : (l : ℕ) → is_expression t l ≡ true → definition_of t n l ≡ owner_of t n l
  -- an expression is used once, and owned by what has a body; an argument is given to its owner
  pub once : (x : ℕ) → is_expression t x ≡ true → uses t n x ≡ 1
  pub owners : (x : ℕ) → is_expression t x ≡ true → HasBody t (owner_of t n x)
  pub argument : (x : ℕ) → argument_place (kind t x) ≤ takes (kind t (owner_of t n x))
  pub level : (x : ℕ) → 1 ≤ x → x ≤ n → level_of t n x ≤ level_limit
  -- the computed owner and level are those of the relations, and the only ones
  pub owned : (x : ℕ) → is_expression t x ≡ true → Owned t (owner_of t n x) x
  pub owned_only : (d x : ℕ) → Owned t d x → d ≡ owner_of t n x
  pub levelled : (x : ℕ) → is_expression t x ≡ true → Level t x (level_of t n x)
  pub level_only : (x k : ℕ) → Level t x k → k ≡ level_of t n x
